-- Many jobs end, from the last place down to the first.
use Rattle.std.proofs.Common.{◌≡◌, ℕ, zero, suc, ◌-◌, ◌<◌, ◌≤◌, Bool, true, false, List, [], ◌∷◌, length, get_or, set, map, refl, sym, ◌∙◌, ap, subst, arith}
use Rattle.std.specs.Prelude.{cond, filter, remove}
use Rattle.held_jobs.specs.Books.{job_at}
use Rattle.held_jobs.specs.Shown.{ShownJob}
use Rattle.spool_history.specs.Base.{Base}
use Rattle.spool_history.specs.Events.{Event}
use Rattle.spool_history.specs.Now.{Job, State, is_held}
use Rattle.spool_history.specs.Steps.{change, accepted_by, printers_after, closed_after}
use Rattle.spool_history.specs.Legal.{May}
use Rattle.spool_laws.proofs.Known.{has_contained}
use Rattle.spool_laws.proofs.Joined.{contained}
use Rattle.step_lemmas.specs.Standing.{no_job}
use Rattle.step_lemmas.proofs.HeldJobs.Standing.{has_get, none_changed}
use Rattle.spool_calls.specs.declared.printer.Printer.{Printer}
use Rattle.spool_calls.specs.Looks.{Detail, What, size}
use Rattle.spool_calls.specs.Kept.{Kept, Leaves, left_by, kept_printer}
use Rattle.step_lemmas.proofs.Cores.Leaving.{leaves_stock, stock_left, stock_of}
use Rattle.spool_calls.specs.Stocks.{AllMayEnd, CanEnd, EndsTo, IsStocked, IsStockOf, left_when, marked, MayEnd, Stock, stock_after, with_jobs}
use Rattle.step_lemmas.proofs.Cores.Stocks.{can_end, end_place, ended_job, len_of, may_end, one_ends, tie_at}

-- the same, where only those from a place on have ended yet
abbrev pub partly : {C : Type 0} → (ℕ → Bool) → List (Job C) → ℕ → List (Job C)
partly ends jobs zero = left_when ends jobs
partly ends [] (suc i) = []
partly ends (x ∷ jobs) (suc i) = x ∷ partly ends jobs i

-- of whatever state a stock is kept, the other is kept of that state with the chosen jobs ended from a place on
abbrev pub EndsFrom : (ℕ → Bool) → ℕ → Stock → Stock → Type 0
EndsFrom ends i s t =
    (d : Detail) (v : State (What d)) → AllMayEnd v → IsStockOf d v s → IsStockOf d (with_jobs v (partly ends v.jobs i)) t

cond_cons : {X : Type 0} (b : Bool) (x : X) (xs ys : List X) → cond b (x ∷ xs) (x ∷ ys) ≡ x ∷ cond b xs ys
cond_cons true x xs ys = refl
cond_cons false x xs ys = refl

module _ {C : Type 0} (ends : ℕ → Bool) where
  -- past the last place none has ended yet
  none_yet : (jobs : List (Job C)) (n : ℕ) → length jobs ≤ n → partly ends jobs n ≡ jobs
  none_yet [] zero le = refl
  none_yet [] (suc n) le = refl
  none_yet (x ∷ jobs) zero le = absurd (omega arith)
  none_yet (x ∷ jobs) (suc n) le = ap (λ (l : List (Job C)). x ∷ l) (none_yet jobs n (omega arith))

  -- the job of the place stands there still
  stands : (jobs : List (Job C)) (i : ℕ) → i < length jobs → get_or (partly ends jobs (suc i)) i no_job ≡ get_or jobs i no_job
  stands [] i lt = absurd (omega arith)
  stands (x ∷ jobs) zero lt = refl
  stands (x ∷ jobs) (suc i) lt = stands jobs i (omega arith)

  many : (jobs : List (Job C)) (i : ℕ) → i < length jobs → i < length (partly ends jobs (suc i))
  many [] i lt = absurd (omega arith)
  many (x ∷ jobs) zero lt = omega arith
  many (x ∷ jobs) (suc i) lt = (let m = many jobs i (omega arith) in omega arith)

  -- where it isn't chosen nothing changes
  unchosen : (jobs : List (Job C)) (i : ℕ) → i < length jobs → is_held (get_or jobs i no_job) ≡ true → ends (get_or jobs i no_job).number ≡ false → partly ends jobs (suc i) ≡ partly ends jobs i
  unchosen [] i lt h e = absurd (omega arith)
  unchosen (x ∷ jobs) zero lt h e = rw (e, h) refl
  unchosen (x ∷ jobs) (suc i) lt h e = ap (λ (l : List (Job C)). x ∷ l) (unchosen jobs i (omega arith) h e)

  -- where it is chosen it ends
  chosen : (jobs : List (Job C)) (i : ℕ) → i < length jobs → ends (get_or jobs i no_job).number ≡ true → end_place (partly ends jobs (suc i)) i ≡ partly ends jobs i
  chosen [] i lt e = absurd (omega arith)
  chosen (x ∷ jobs) zero lt e = rw e refl
  chosen (x ∷ jobs) (suc i) lt e =
      let left = partly ends jobs (suc i) in
      let y : Job C = ended_job (get_or left i no_job) in
      cond_cons (is_held y) x (set left i y) (remove left i) ∙ ap (λ (l : List (Job C)). x ∷ l) (chosen jobs i (omega arith) e)

-- before the first step nothing has ended
pub ends_none : (ends : ℕ → Bool) (s : Stock) (n : ℕ) → n ≡ length s.book.jobs → EndsFrom ends n s s
ends_none ends s n e d v all is =
    let le : length v.jobs ≤ n = (let m = len_of d v s is in omega (arith, m, e)) in
    subst (λ (l : List (Job (What d))). IsStockOf d (with_jobs v l) s) (sym (none_yet ends v.jobs n le)) is

module _ (ends : ℕ → Bool) (s t : Stock) (i : ℕ) (e : EndsFrom ends (suc i) s t) where
  -- the job of the place, among those that are still there
  module _ (d : Detail) (v : State (What d)) (all : AllMayEnd v) (is : IsStockOf d v s) (lt : i < length s.book.jobs) where
    abbrev w : State (What d)
    w = with_jobs v (partly ends v.jobs (suc i))

    lt' : i < length v.jobs
    lt' = (let n = len_of d v s is in omega (arith, n, lt))

    here : i < length w.jobs
    here = many ends v.jobs i lt'

    may : MayEnd v.config (get_or w.jobs i no_job)
    may = subst (λ (y : Job (What d)). MayEnd v.config y) (sym (stands ends v.jobs i lt')) (all (get_or v.jobs i no_job) (contained (get_or v.jobs i no_job) v.jobs (has_get v.jobs i no_job lt')))

    step_can : CanEnd t i
    step_can = can_end d w t (e d v all is) i here may

    -- the job of the place in the stock has the number of the one in the state
    number : ends (job_at t.book i).facts.number ≡ ends (get_or v.jobs i no_job).number
    number = ap ends (ap (λ (j : ShownJob (What d)). j.facts.number) (tie_at d w t (e d v all is) i here) ∙ ap (λ (y : Job (What d)). y.number) (stands ends v.jobs i lt'))

    step_ends : ends (job_at t.book i).facts.number ≡ true → IsStockOf d (with_jobs v (partly ends v.jobs i)) (stock_after t i)
    step_ends hit = subst (λ (l : List (Job (What d))). IsStockOf d (with_jobs v l) (stock_after t i)) (chosen ends v.jobs i lt' (sym number ∙ hit)) (one_ends d w t (e d v all is) i here may)

    step_keeps : ends (job_at t.book i).facts.number ≡ false → IsStockOf d (with_jobs v (partly ends v.jobs i)) t
    step_keeps miss =
        subst (λ (l : List (Job (What d))). IsStockOf d (with_jobs v l) t)
        (unchosen ends v.jobs i lt' (all (get_or v.jobs i no_job) (contained (get_or v.jobs i no_job) v.jobs (has_get v.jobs i no_job lt'))).held (sym number ∙ miss)) (e d v all is)

-- how far it is: so many of the first places are still to be looked at
pub record Ending (ends : ℕ → Bool) (s t : Stock) (i : ℕ) : Type 0 where
  pub some : IsStocked s
  pub within : i ≤ length s.book.jobs
  pub ends_from : EndsFrom ends i s t

pub ending_start : (ends : ℕ → Bool) (s : Stock) (n : ℕ) → IsStocked s → n ≡ length s.book.jobs → Ending ends s s n
ending_start ends s n some e = record { some = some; within = omega (arith, e); ends_from = ends_none ends s n e }

module _ (ends : ℕ → Bool) (s t : Stock) (m : ℕ) (g : Ending ends s t m) where
  pub ending_done : m ≤ 0 → EndsTo ends s t
  ending_done le = (let z : m ≡ 0 = omega arith in subst (λ (i : ℕ). EndsFrom ends i s t) z g.ends_from)

  module _ (lt : 0 < m) where
    from : EndsFrom ends (suc (m - 1)) s t
    from = (let e : m ≡ suc (m - 1) = omega arith in subst (λ (i : ℕ). EndsFrom ends i s t) e g.ends_from)

    less : m - 1 < length s.book.jobs
    less = (let w = g.within in omega (arith, w, lt))

    pub ending_can : CanEnd t (m - 1)
    ending_can = step_can ends s t (m - 1) from g.some.0 g.some.1 g.some.2 g.some.3 less

    pub ending_hit : (u : Stock) → ends (job_at t.book (m - 1)).facts.number ≡ true → u ≡ stock_after t (m - 1) → Ending ends s u (m - 1)
    ending_hit u hit e = record {
      some = g.some;
      within = (let w = less in omega (arith, w));
      ends_from = subst (λ (z : Stock). EndsFrom ends (m - 1) s z) (sym e) (λ d v all is. step_ends ends s t (m - 1) from d v all is less hit);
    }

    pub ending_miss : ends (job_at t.book (m - 1)).facts.number ≡ false → Ending ends s t (m - 1)
    ending_miss miss = record {
      some = g.some;
      within = (let w = less in omega (arith, w));
      ends_from = λ d v all is. step_keeps ends s t (m - 1) from d v all is less miss;
    }

pub all_may_end : (d : Detail) (b : Base) (h : List (Event (What d))) (k : Kept) → Leaves d b h k → AllMayEnd (left_by d b h k)
all_may_end d b h k l x has = may_end (size d) k.config b h x l.legal (has_contained x (left_by d b h k).jobs has)

pub stocked : (d : Detail) (b : Base) (h : List (Event (What d))) (k : Kept) → Leaves d b h k → IsStocked (stock_of k)
stocked d b h k l = (d, left_by d b h k, all_may_end d b h k l, stock_left d b h k l)

-- an event that ends the jobs of chosen numbers
pub leaves_ended : (d : Detail) (b : Base) (h : List (Event (What d))) (k : Kept) (e : Event (What d)) (ends : ℕ → Bool) (t : Stock) (printers : List Printer) (closed : Bool)
    → Leaves d b h k → May (size d) (left_by d b h k) e → accepted_by e ≡ [] → ((x : Job (What d)) → change e x ≡ marked ends x)
    → printers ≡ map (kept_printer d) (printers_after e (left_by d b h k)) → closed ≡ closed_after e (left_by d b h k).closed
    → EndsTo ends (stock_of k) t
    → Leaves d b (e ∷ h) (record k { pool = t.pool; book = t.book; table = t.table; printers = printers; closed = closed })
leaves_ended d b h k e ends t printers closed l may none same prs cl to =
    let v = left_by d b h k in
    leaves_stock d b h k e (left_when ends v.jobs) t printers closed l may
    (ap (λ (f : Job (What d) → Job (What d)). filter is_held (map f v.jobs)) (λ i x. same x i)) none (to d v (all_may_end d b h k l) (stock_left d b h k l)) prs cl

-- an event that ends no job, and leaves each job as it is
pub leaves_same : (d : Detail) (b : Base) (h : List (Event (What d))) (k : Kept) (e : Event (What d)) (printers : List Printer) (closed : Bool)
    → Leaves d b h k → May (size d) (left_by d b h k) e → accepted_by e ≡ [] → ((x : Job (What d)) → change e x ≡ x)
    → printers ≡ map (kept_printer d) (printers_after e (left_by d b h k)) → closed ≡ closed_after e (left_by d b h k).closed
    → Leaves d b (e ∷ h) (record k { printers = printers; closed = closed })
leaves_same d b h k e printers closed l may none same prs cl =
    leaves_ended d b h k e (λ n. false) (stock_of k) printers closed l may none same prs cl
    (λ d' v all is. subst (λ (js : List (Job (What d'))). IsStockOf d' (with_jobs v js) (stock_of k)) (sym (none_changed (marked (λ n. false)) v.jobs (λ z has. refl) (λ z has. (all z (contained z v.jobs has)).held))) is)

-- A spool stays safe.
use Rattle.std.proofs.Common.{inl, inr, ◌≡◌, ◌==◌, ◌≢◌, ℕ, zero, suc, ◌+◌, ◌-◌, ◌<◌, ◌≤◌, true, false, List, [], ◌∷◌, ◌++◌, length, get_or, map, refl, sym, ◌∙◌, ap, subst, arith}
use Rattle.std.specs.Prelude.{cond, slice_index_or}
use Rattle.std.specs.List.{AllByRecursion}
use Rattle.std.proofs.lemmas.Bool.Decides.{nat_tests}
use Rattle.std.proofs.lemmas.List.{append-nil, map-append}
use Rattle.counts.specs.Amounts.{amount}
use Rattle.claims.specs.declared.row.Row.{Row}
use Rattle.claims.specs.Safety.{freed, KeepsLine, same_line, HasFinishingOrder}
use Rattle.claims.proofs.Orders.{MayGo, safe_more, safe_without, safe_first}
use Rattle.std.proofs.lemmas.Bool.{and_parts, cases_lt}
use Rattle.spool_history.specs.Base.{Base}
use Rattle.spool_history.specs.Events.{Event, Sheet}
use Rattle.spool_history.specs.Events.Act.{Granted}
use Rattle.spool_history.specs.Events.Turn.{Handed}
use Rattle.spool_history.specs.Events.Event.{Opened, OfJob, AtPrinter}
use Rattle.config_values.specs.Config.{IsQueue, Config, limit_of, queue_at, no_queue}
use Rattle.spool_history.specs.Said.{Opening, openings}
use Rattle.spool_history.specs.Now.{Job, State, now, job_of, is_held, is_received, amounts, row_of, capacity, free_amount, pages_held, printers_held, pages_needed, printers_needed, IsSafeNow, up_to}
use Rattle.spool_history.specs.Steps.{change, new_job, accepted_by}
use Rattle.spool_history.specs.Legal.{IsLegal, May}
use Rattle.spool_laws.specs.Safety.{EachCouldFinish}
use Rattle.spool_laws.specs.Leaving.{EarlierAreGone}
use Rattle.spool_laws.proofs.Known.{Has, known, has_kept, test, clash, filter_cons}
use Rattle.spool_laws.proofs.Facts.{facts, turn_of_page}
use Rattle.spool_laws.proofs.Moves.{moved}
use Rattle.spool_laws.proofs.Behind.{each_in_order}
use Rattle.claims.proofs.Lowered.{Lower, holds, holds_sum, holds_append, safe_last}
use Rattle.spool_laws.proofs.StillHeld.{Lowers, left, lowers}
use Rattle.spool_laws.proofs.Pigeons.{Rises, at_most}
use Rattle.spool_laws.proofs.Busy.{rising_jobs, received_if}
use Rattle.spool_laws.proofs.Enough.{rows, printers_small, get_printers, kind_within}
use Rattle.spool_laws.proofs.Sound.{amount_le, is_quiet, lowers_all}
use Rattle.spool_laws.proofs.Joined.{contained}

abbrev pub free : {C : Type 0} → Config → List (Job C) → ℕ → ℕ
free c jobs k = amount (capacity c) k - holds k (rows c jobs)

abbrev pub IsGood : {C : Type 0} → Config → List (Job C) → Type 0
IsGood c jobs = HasFinishingOrder (free c jobs) (rows c jobs)

pub to_safe : {C : Type 0} (v : State C) → IsGood v.config v.jobs → IsSafeNow v
to_safe v g = safe_more (free v.config v.jobs) (free_amount v) (rows v.config v.jobs) (λ k. let e = holds_sum k (rows v.config v.jobs) in omega arith) g

pub of_safe : {C : Type 0} (v : State C) → IsSafeNow v → IsGood v.config v.jobs
of_safe v g = safe_more (free_amount v) (free v.config v.jobs) (rows v.config v.jobs) (λ k. let e = holds_sum k (rows v.config v.jobs) in omega arith) g

-- an event by which no job gets or accepts anything

quiet_accepts : {C : Type 0} (e : Event C) → is_quiet e ≡ true → accepted_by e ≡ []
quiet_accepts (Opened k s q) is = absurd (clash false is refl)
quiet_accepts _ is = refl

jobs_after : {C : Type 0} (size : C → ℕ) (c : Config) (base : Base) (h : List (Event C)) (e : Event C) → IsLegal size c base h → May size (now c base h) e → accepted_by e ≡ [] → (now c base (e ∷ h)).jobs ≡ left (change e) (now c base h).jobs
jobs_after {C} size c base h e l m none =
    ap (λ (v : State C). v.jobs) (moved size c base h e l m) ∙ (ap (λ (r : List (Job C)). left (change e) (now c base h).jobs ++ r) none ∙ append-nil (left (change e) (now c base h).jobs))

all_of : {X : Type 0} (P : X → Type 0) (xs : List X) → ((x : X) → Has x xs → P x) → AllByRecursion P xs
all_of P [] f = tt
all_of P (x ∷ xs) f = (f x (inl refl), all_of P xs (λ y t. f y (inr t)))

quiet : {C : Type 0} (size : C → ℕ) (c : Config) (base : Base) (h : List (Event C)) (e : Event C) → is_quiet e ≡ true → IsLegal size c base h → May size (now c base h) e → IsGood c (now c base h).jobs → IsGood c (now c base (e ∷ h)).jobs
quiet {C} size c base h e is l m s =
    let jobs = (now c base h).jobs in
    let later = left (change e) jobs in
    let P : Job C → Type 0 = λ (v : Job C). is_held (change e v) ≡ true → Lower (row_of c v) (row_of c (change e v)) in
    let each : Lowers (row_of c) (change e) jobs = all_of P jobs (λ v has. (let k = known c base h v has in subst P (sym k.is) (λ held. lowers_all size c base h e is l m k.opening k.there))) in
    let good : IsGood c later = lowers (row_of c) (change e) jobs each [] (free c jobs) (free c later) (λ k. let r = kind_within size c base h l k in omega arith) s in
    subst (λ (r : List (Job C)). IsGood c r) (sym (jobs_after size c base h e l m (quiet_accepts e is))) good

-- an event that changes one job

left_same : {C : Type 0} (g : Job C → Job C) (us : List (Job C)) → ((u : Job C) → Has u us → (g u ≡ u) × (is_held u ≡ true)) → left g us ≡ us
left_same g [] f = refl
left_same {C} g (u ∷ us) f =
    let x = f u (inl refl) in
    filter_cons true (g u) (map g us) (subst (λ (v : Job C). is_held v ≡ true) (sym x.0) x.1) ∙ cc (x.0, left_same g us (λ v t. f v (inr t)))

record Split {C : Type 0} (g : Job C → Job C) (us : List (Job C)) (w : Job C) : Type 0 where
  pub a : List (Job C)
  pub b : List (Job C)
  pub was : us ≡ a ++ w ∷ b
  pub is : left g us ≡ a ++ g w ∷ b
  pub others : (u : Job C) → Has u (a ++ b) → Has u us × (u.number ≢ w.number)

split : {C : Type 0} (g : Job C → Job C) (us : List (Job C)) (w : Job C) → Has w us → Rises (λ (v : Job C). v.number) us → ((u : Job C) → u.number ≢ w.number → g u ≡ u) → ((u : Job C) → Has u us → is_held u ≡ true) → is_held (g w) ≡ true → Split g us w
split g [] w has r same held now' = absurd has
split {C} g (y ∷ us) w has r same held now' = elim has [
  | inl e ↦
      let ne : (u : Job C) → Has u us → u.number ≢ w.number = λ u t same'. (let lt = r.0 u t in let n : y.number ≡ w.number = ap (λ (v : Job C). v.number) e in let m : u.number ≡ w.number = same' in omega arith) in
      let gy : g y ≡ g w = ap g e in
      record {
        a = [];
        b = us;
        was = ap (λ (v : Job C). v ∷ us) e;
        is = filter_cons true (g y) (map g us) (subst (λ (v : Job C). is_held v ≡ true) (sym gy) now') ∙ cc (gy, left_same g us (λ u t. (same u (ne u t), held u (inr t))));
        others = λ u t. (inr t, ne u t);
      }
  | inr t ↦
      let s = split g us w t r.1 same (λ u t'. held u (inr t')) now' in
      let ne : y.number ≢ w.number = λ same'. (let m : y.number ≡ w.number = same' in omega arith) in
      let gy = same y ne in
      record {
        a = y ∷ s.a;
        b = s.b;
        was = ap (λ (v : List (Job C)). y ∷ v) s.was;
        is = filter_cons true (g y) (map g us) (subst (λ (v : Job C). is_held v ≡ true) (sym gy) (held y (inl refl))) ∙ cc (gy, s.is);
        others = λ u t'. elim t' [ inl e ↦ (inl e, subst (λ (v : Job C). v.number ≢ w.number) e ne) | inr i ↦ let o = s.others u i in (inr o.0, o.1) ];
      }
]

held_jobs : {C : Type 0} (c : Config) (base : Base) (h : List (Event C)) (u : Job C) → Has u (now c base h).jobs → is_held u ≡ true
held_jobs c base h u has = (known c base h u has).held

holds_at : {C : Type 0} (c : Config) (k : ℕ) (a b : List (Job C)) (w : Job C) → holds k (rows c (a ++ w ∷ b)) ≡ holds k (rows c a) + (amount (row_of c w).held k + holds k (rows c b))
holds_at c k a b w = ap (holds k) (map-append (row_of c) a (w ∷ b)) ∙ holds_append k (rows c a) (rows c (w ∷ b))

-- a page is lent

granted : {C : Type 0} (size : C → ℕ) (c : Config) (base : Base) (h : List (Event C)) (k : ℕ) → IsLegal size c base h → May size (now c base h) (OfJob k Granted) → IsGood c (now c base (OfJob k Granted ∷ h)).jobs
granted {C} size c base h k l m = of_safe (now c base (OfJob k Granted ∷ h)) (subst (λ (v : State C). IsSafeNow v) (sym (moved size c base h (OfJob k Granted) l m)) m.1.1)

-- a job is accepted

could : (c : Config) → EachCouldFinish c → (q : ℕ) → IsQueue c q → (k : ℕ) → amount (amounts c (limit_of c q) q 1) k ≤ amount (capacity c) k
could c w q is zero = w.pages q is
could c w q is (suc i) =
    let a = at_most (λ (r : ℕ). cond (r == q) 1 0) (length c.queues) i in
    let g = get_printers c.queues i in
    elim (test (suc i) q) [
      | inl s ↦
          let a' : get_or (map (λ (r : ℕ). cond (r == q) 1 0) (up_to (length c.queues))) i 0 ≤ 1 = rw s.1 at a in
          let same : (queue_at c q).printers ≡ (slice_index_or c.queues i no_queue).printers = ap (λ (n : ℕ). (slice_index_or (no_queue ∷ c.queues) n no_queue).printers) (sym s.0) in
          omega (arith, w.printers q is)
      | inr s ↦ omega (arith, rw s.1 at a)
    ]

nothing_of : (c : Config) (q k : ℕ) → amount (amounts c 0 q 0) k ≡ 0
nothing_of c q zero = refl
nothing_of c q (suc i) =
    let a = at_most (λ (r : ℕ). cond (r == q) 0 0) (length c.queues) i in
    elim (test (suc i) q) [ inl s ↦ omega (arith, rw s.1 at a) | inr s ↦ omega (arith, rw s.1 at a) ]

all_rows : {C : Type 0} (P : Row → Type 0) (row : Job C → Row) (us : List (Job C)) → ((u : Job C) → Has u us → P (row u)) → AllByRecursion P (map row us)
all_rows P row [] f = tt
all_rows P row (u ∷ us) f = (f u (inl refl), all_rows P row us (λ v t. f v (inr t)))

opened : {C : Type 0} (size : C → ℕ) (c : Config) (base : Base) (h : List (Event C)) (k s q : ℕ) → EachCouldFinish c → IsLegal size c base h → May size (now c base h) (Opened k s q) → IsGood c (now c base h).jobs → IsGood c (now c base (Opened k s q ∷ h)).jobs
opened {C} size c base h k s q each l m st =
    let e : Event C = Opened k s q in
    let jobs = (now c base h).jobs in
    let w : Job C = new_job k s q in
    let x = row_of c w in
    let same : left (change e) jobs ≡ jobs = left_same (change e) jobs (λ u has. (refl, held_jobs c base h u has)) in
    let j : (now c base (e ∷ h)).jobs ≡ jobs ++ w ∷ [] = ap (λ (v : State C). v.jobs) (moved size c base h e l m) ∙ ap (λ (r : List (Job C)). r ++ w ∷ []) same in
    let line : AllByRecursion (λ z. KeepsLine z x) (rows c jobs) = all_rows (λ z. KeepsLine z x) (row_of c) jobs (λ u has _.
    (let kn = known c base h u has in
    let n = (facts size c base h l).numbers kn.opening kn.there in
    let u' : u.number ≡ kn.opening.job = ap (λ (v : Job C). v.number) kn.is in
    omega arith)) in
    let fits = could c each q m.1 in
    let last = safe_last (free c jobs) (rows c jobs) x (λ i. let f = fits i in let g : amount x.need i ≤ amount (amounts c (limit_of c q) q 1) i = amount_le c q (limit_of c q - 0) (limit_of c q) 1 1 (omega arith) (omega arith) i in omega arith) line st in
    let map' = map-append (row_of c) jobs (w ∷ []) in
    let good : IsGood c (jobs ++ w ∷ []) = subst (HasFinishingOrder (free c (jobs ++ w ∷ []))) (sym map') (safe_more (free c jobs) (free c (jobs ++ w ∷ [])) (rows c jobs ++ x ∷ [])
    (λ i. let z = nothing_of c q i in let sum = ap (holds i) map' ∙ holds_append i (rows c jobs) (x ∷ []) in omega arith) last) in
    subst (λ (r : List (Job C)). IsGood c r) (sym j) good

-- a page is handed to a printer: its job needs nothing more, and stands before all others of its sender and queue

line_true : (u w : Row) → same_line w u ≡ true → (w.sender ≡ u.sender) × (w.queue ≡ u.queue)
line_true u w e = (let a = and_parts (w.sender == u.sender) (w.queue == u.queue) e in (let x = a.0 in grind (arith, nat_tests), let x = a.1 in grind (arith, nat_tests)))

nothing_more : {C : Type 0} (c : Config) (v : Job C) → pages_needed c v ≡ 0 → printers_needed v ≡ 0 → (k : ℕ) → amount (row_of c v).need k ≡ 0
nothing_more c v p n k =
    let a : amount (row_of c v).need k ≤ amount (amounts c 0 v.queue 0) k = amount_le c v.queue (pages_needed c v) 0 (printers_needed v) 0 (omega arith) (omega arith) k in
    omega (arith, nothing_of c v.queue k)

-- of its sender and queue each other held job has a higher number
line_of : {C : Type 0} (size : C → ℕ) (c : Config) (base : Base) (h : List (Event C)) (sheet : Sheet C) → IsLegal size c base h → (o : Opening) → Has o (openings h) → o.job ≡ sheet.job → EarlierAreGone h sheet
    → (u : Job C) → Has u (now c base h).jobs → u.number ≢ o.job → (o.sender ≡ u.sender) × (o.queue ≡ u.queue) → o.job < u.number
line_of {C} size c base h sheet l o there is gone u has ne line = elim (cases_lt o.job u.number) [
  | inl lt ↦ lt
  | inr le ↦
      let k = known c base h u has in
      let x = k.opening in
      let n : u.number ≡ x.job = ap (λ (v : Job C). v.number) k.is in
      let s : u.sender ≡ x.sender = ap (λ (v : Job C). v.sender) k.is in
      let q : u.queue ≡ x.queue = ap (λ (v : Job C). v.queue) k.is in
      let g : is_held (job_of h x) ≡ false = gone x o (contained x (openings h) k.there) (contained o (openings h) there) is (omega arith) (sym s ∙ sym line.0) (sym q ∙ sym line.1) in
      absurd (clash (is_held (job_of h x)) (subst (λ (v : Job C). is_held v ≡ true) k.is k.held) g)
]

handed : {C : Type 0} (size : C → ℕ) (c : Config) (base : Base) (h : List (Event C)) (p : ℕ) (sheet : Sheet C) → IsLegal size c base h → May size (now c base h) (AtPrinter p sheet Handed) → IsGood c (now c base h).jobs → IsGood c (now c base (AtPrinter p sheet Handed ∷ h)).jobs
handed {C} size c base h p sheet l m st =
    let e : Event C = AtPrinter p sheet Handed in
    let jobs = (now c base h).jobs in
    let f = facts size c base h l in
    let t = turn_of_page c base h p sheet m.0.0 m.0.1 m.1 in
    let o : Opening = record { job = sheet.job; sender = t.at.sender; queue = t.at.queue } in
    let w = job_of h o in
    let w' : Job C = record w { handed = w.handed + 1 } in
    let here : change e w ≡ w' = elim (test sheet.job sheet.job) [ inl r ↦ rw r.1 refl | inr r ↦ absurd (r.0 refl) ] in
    let other : (u : Job C) → u.number ≢ sheet.job → change e u ≡ u = λ u ne. elim (test sheet.job u.number) [ inl r ↦ absurd (ne (sym r.0)) | inr r ↦ rw r.1 refl ] in
    let goes : w.ended ≡ false = t.at.is.goes_on in
    let received : is_received w ≡ true = elim t.why [ inl b ↦ received_if h sheet.job f (f.began p sheet.job b) | inr z ↦ z.1 ] in
    let held : is_held (change e w) ≡ true = subst (λ (v : Job C). is_held v ≡ true) (sym here) (rw goes refl) in
    let sp = split (change e) jobs w (has_kept h o (openings h) t.at.held t.at.there) (rising_jobs size c base h l) other (held_jobs c base h) held in
    let j : (now c base (e ∷ h)).jobs ≡ sp.a ++ w' ∷ sp.b = jobs_after size c base h e l m refl ∙ (sp.is ∙ ap (λ (v : Job C). sp.a ++ v ∷ sp.b) here) in
    let x = row_of c w in
    let y = row_of c w' in
    let more : (w.handed + 1 == 0) ≡ false = grind (arith, nat_tests) in
    let ph : printers_held w' ≡ 1 = rw more refl in
    let pn : printers_needed w' ≡ 0 = rw (goes, more) refl in
    let pg : pages_needed c w' ≡ 0 = rw (goes, received) refl in
    let same : pages_held w' ≡ pages_held w = rw goes refl in
    let small = printers_small w in
    let hold : (k : ℕ) → amount x.held k ≤ amount y.held k = λ k. amount_le c w.queue (pages_held w) (pages_held w') (printers_held w) (printers_held w') (omega arith) (omega arith) k in
    let none : (k : ℕ) → amount y.need k ≡ 0 = nothing_more c w' pg pn in
    let A = rows c sp.a in
    let B = rows c sp.b in
    let gone = (each_in_order size c base (e ∷ h) (m, l)).0 in
    let line : AllByRecursion (KeepsLine y) (rows c (sp.a ++ sp.b)) = all_rows (KeepsLine y) (row_of c) (sp.a ++ sp.b) (λ u has tr. line_of size c base h sheet l o t.at.there refl gone u (sp.others u has).0 (sp.others u has).1 (line_true (row_of c u) y tr)) in
    let line' : AllByRecursion (KeepsLine y) (A ++ B) = subst (AllByRecursion (KeepsLine y)) (map-append (row_of c) sp.a sp.b) line in
    let was : rows c jobs ≡ A ++ x ∷ B = ap (rows c) sp.was ∙ map-append (row_of c) sp.a (w ∷ sp.b) in
    let f' = free c (sp.a ++ w' ∷ sp.b) in
    let g1 : HasFinishingOrder (free c jobs) (A ++ x ∷ B) = subst (HasFinishingOrder (free c jobs)) was st in
    let g2 : HasFinishingOrder (freed (free c jobs) x) (A ++ B) = safe_without (free c jobs) A x B g1 in
    let g3 : HasFinishingOrder (freed f' y) (A ++ B) = safe_more (freed (free c jobs) x) (freed f' y) (A ++ B) (λ k.
    let s1 = ap (λ (r : List (Job C)). holds k (rows c r)) sp.was ∙ holds_at c k sp.a sp.b w in
    let s2 = holds_at c k sp.a sp.b w' in
    let hk = hold k in
    omega arith) g2 in
    let go : MayGo f' A y B = record { fits = λ k. let z = none k in omega arith; in_line = line' } in
    let good : IsGood c (sp.a ++ w' ∷ sp.b) = subst (HasFinishingOrder f') (sym (map-append (row_of c) sp.a (w' ∷ sp.b))) (safe_first f' A y B go g3) in
    subst (λ (r : List (Job C)). IsGood c r) (sym j) good

step : {C : Type 0} (size : C → ℕ) (c : Config) (base : Base) (h : List (Event C)) (e : Event C) → EachCouldFinish c → IsLegal size c base h → May size (now c base h) e → IsGood c (now c base h).jobs → IsGood c (now c base (e ∷ h)).jobs
step size c base h (Opened k s q) each l m st = opened size c base h k s q each l m st
step size c base h (OfJob k Granted) each l m st = granted size c base h k l m
step size c base h (AtPrinter p sheet Handed) each l m st = handed size c base h p sheet l m st
step size c base h e each l m st = quiet size c base h e refl l m st

stays_by : {C : Type 0} (size : C → ℕ) (c : Config) (base : Base) (h : List (Event C)) → EachCouldFinish c → IsLegal size c base h → IsGood c (now c base h).jobs
stays_by size c base [] each l = ([], record { each_once = refl; in_line = tt; fits = tt })
stays_by size c base (e ∷ h) each l = step size c base h e each l.1 l.0 (stays_by size c base h each l.1)

pub stays : {C : Type 0} (size : C → ℕ) (c : Config) (base : Base) (h : List (Event C)) → EachCouldFinish c → IsLegal size c base h → IsSafeNow (now c base h)
stays size c base h each l = to_safe (now c base h) (stays_by size c base h each l)

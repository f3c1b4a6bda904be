-- One more event leaves the spool where its step leads.
use Rattle.std.proofs.Common.{inl, inr, ◌≡◌, ◌==◌, ℕ, ◌+◌, Bool, true, false, List, [], ◌∷◌, ◌++◌, length, map, refl, sym, ◌∙◌, ap, subst, arith}
use Rattle.std.specs.Prelude.{◌||◌, not, cond, filter, sum_by}
use Rattle.std.specs.List.{list_any}
use Rattle.std.proofs.lemmas.List.{append-nil, map-append, length_push}
use Rattle.std.proofs.lemmas.List.Elements.{filter-append}
use Rattle.std.proofs.lemmas.List.Sums.{sum_by_push}
use Rattle.std.proofs.lemmas.Bool.Decides.{nat_tests}
use Rattle.spool_history.specs.Base.{Base}
use Rattle.spool_history.specs.Events.{Event}
use Rattle.spool_history.specs.Events.Turn.{Handed, Printed, Failed}
use Rattle.spool_history.specs.Events.Event.{Opened, OfJob, AtPrinter, Removed, Started, Closed}
use Rattle.config_values.specs.Config.{Config, printer_count, reserve_of}
use Rattle.spool_history.specs.Said.{Opening, openings, acts_of, back_of, has_ended, is_closed}
use Rattle.spool_history.specs.Now.{Job, Printer, State, now, job_of, is_held, has_page_out, printer_of, up_to}
use Rattle.spool_history.specs.Acts.{is_lent_by}
use Rattle.spool_history.specs.Steps.{change, acted, turned, new_job, accepted_by, printers_after, closed_after, after}
use Rattle.spool_history.specs.Legal.{May, IsLegal, IsLeftBy}
use Rattle.spool_laws.proofs.Known.{has_at, held_at, filter_cons, clash, or_true, test}
use Rattle.spool_laws.proofs.Changes.{changes}
use Rattle.spool_laws.proofs.Printers.{map_twice, printers_turned, printers_started}
use Rattle.spool_laws.proofs.Facts.{Facts, facts, last, open_first, turn_of_page, is_out, handed_at}
use Rattle.std.proofs.lemmas.Bool.{cases_Bool}

-- a job that is gone stays gone
abbrev pub StaysGone : {C : Type 0} → List (Event C) → Event C → Type 0
StaysGone h e = (o : Opening) → is_held (job_of h o) ≡ false → is_held (change e (job_of h o)) ≡ false

held_step : {C : Type 0} (f : Job C → Job C) (v : Job C) (vs : List (Job C)) (b : Bool) → is_held v ≡ b → (is_held v ≡ false → is_held (f v) ≡ false)
    → filter is_held (map f vs) ≡ filter is_held (map f (filter is_held vs)) → filter is_held (map f (v ∷ vs)) ≡ filter is_held (map f (filter is_held (v ∷ vs)))
held_step {C} f v vs true e g ih = ap (λ (r : List (Job C)). cond (is_held (f v)) (f v ∷ r) r) ih ∙ sym (ap (λ (r : List (Job C)). filter is_held (map f r)) (filter_cons true v vs e))
held_step {C} f v vs false e g ih = filter_cons false (f v) (map f vs) (g e) ∙ (ih ∙ sym (ap (λ (r : List (Job C)). filter is_held (map f r)) (filter_cons false v vs e)))

-- so it is enough to change the held ones
held_changes : {C : Type 0} (f : Job C → Job C) (g : Opening → Job C) (os : List Opening) → ((o : Opening) → is_held (g o) ≡ false → is_held (f (g o)) ≡ false) → filter is_held (map f (map g os)) ≡ filter is_held (map f (filter is_held (map g os)))
held_changes f g [] k = refl
held_changes f g (o ∷ os) k = held_step f (g o) (map g os) (is_held (g o)) refl (k o) (held_changes f g os k)

jobs_change : {C : Type 0} (h : List (Event C)) (e : Event C) → StaysGone h e → filter is_held (map (job_of (e ∷ h)) (openings h)) ≡ filter is_held (map (change e) (filter is_held (map (job_of h) (openings h))))
jobs_change {C} h e g = ap (filter is_held) (map_twice (job_of h) (change e) (job_of (e ∷ h)) (openings h) (changes h e)) ∙ held_changes (change e) (job_of h) (openings h) g

-- an event that names one held job
stays_named : {C : Type 0} (h : List (Event C)) (e : Event C) (new : Job C → Job C) (k : ℕ) → ((v : Job C) → change e v ≡ cond (k == v.number) (new v) v) → held_at h k ≡ true → StaysGone h e
stays_named {C} h e new k is held o gone = subst (λ (v : Job C). is_held v ≡ false) (sym (is (job_of h o))) (elim (test k o.job) [
  | inl s ↦ absurd (clash (held_at h o.job) (subst (λ (j : ℕ). held_at h j ≡ true) s.0 held) gone)
  | inr s ↦ rw s.1 gone
])

-- what has ended and has no page out is gone
gone_ended : (e p : Bool) → (not e || p) ≡ false → (not true || p) ≡ false
gone_ended true p g = g
gone_ended false p g = absurd cc

-- a job of which a page is out is held
pub out_held : {C : Type 0} (h : List (Event C)) (k : ℕ) → handed_at h k ≡ back_of h k + 1 → held_at h k ≡ true
out_held h k e =
    let ne : (handed_at h k == back_of h k) ≡ false = grind (arith, nat_tests) in
    rw ne (rw (or_true (is_lent_by (acts_of h k))) (or_true (not (has_ended h k))))

pub stays : {C : Type 0} (size : C → ℕ) (c : Config) (base : Base) (h : List (Event C)) (e : Event C) → IsLegal size c base h → May size (now c base h) e → StaysGone h e
stays size c base h (OfJob k act) l m = stays_named h (OfJob k act) (acted act) k (λ v. refl) (has_at c base h k _ m.0).held
stays size c base h (AtPrinter p sheet Handed) l m =
    stays_named h (AtPrinter p sheet Handed) (turned Handed) sheet.job (λ v. refl) (turn_of_page c base h p sheet m.0.0 m.0.1 m.1).at.held
stays size c base h (AtPrinter p sheet (Printed x)) l m =
    stays_named h (AtPrinter p sheet (Printed x)) (turned (Printed x)) sheet.job (λ v. refl) (out_held h sheet.job ((facts size c base h l).out p sheet (is_out c base h p sheet m.0 m.1.0)).1)
stays size c base h (AtPrinter p sheet Failed) l m =
    stays_named h (AtPrinter p sheet Failed) (turned Failed) sheet.job (λ v. refl) (out_held h sheet.job ((facts size c base h l).out p sheet (is_out c base h p sheet m.0 m.1)).1)
stays size c base h (Removed q jobs) l m = λ o gone. elim (cases_Bool (list_any (λ (k : ℕ). k == o.job) jobs)) [
  | inl e ↦ rw e (gone_ended (has_ended h o.job) (has_page_out (job_of h o)) gone)
  | inr e ↦ rw e gone
]
stays size c base h Closed l m = λ o gone. gone_ended (has_ended h o.job) (has_page_out (job_of h o)) gone
stays size c base h _ l m = λ o gone. gone

-- what is gone stays gone
pub steady : {C : Type 0} (size : C → ℕ) (c : Config) (base : Base) (h : List (Event C)) (e : Event C) → IsLegal size c base h → May size (now c base h) e → (o : Opening) → is_held (job_of h o) ≡ false → is_held (job_of (e ∷ h) o) ≡ false
steady {C} size c base h e l m o gone = subst (λ (v : Job C). is_held v ≡ false) (sym (changes h e o)) (stays size c base h e l m o gone)

abbrev Moved : {C : Type 0} → Config → Base → List (Event C) → Event C → Type 0
Moved c base h e = now c base (e ∷ h) ≡ after e (now c base h)

pub all_same : {C : Type 0} (c : Config) (jobs jobs' : List (Job C)) (n n' r r' : ℕ) (ps ps' : List (Printer C)) (b b' : Bool) → jobs ≡ jobs' → n ≡ n' → r ≡ r' → ps ≡ ps' → b ≡ b'
    → ◌≡◌ {A = State C} (record { config = c; jobs = jobs; accepted = n; reserved = r; printers = ps; closed = b }) (record { config = c; jobs = jobs'; accepted = n'; reserved = r'; printers = ps'; closed = b' })
all_same c jobs jobs' n n' r r' ps ps' b b' x y z u w = cc (x, y, z, u, w)

-- an event that accepts no job
moved_by : {C : Type 0} (c : Config) (base : Base) (h : List (Event C)) (e : Event C) → openings (e ∷ h) ≡ openings h → accepted_by e ≡ [] → StaysGone h e
    → map (printer_of c base (e ∷ h)) (up_to (printer_count c)) ≡ printers_after e (now c base h) → is_closed base (e ∷ h) ≡ closed_after e (is_closed base h) → Moved c base h e
moved_by {C} c base h e os none st pr cl =
    let kept = filter is_held (map (change e) (now c base h).jobs) in
    let jobs : filter is_held (map (job_of (e ∷ h)) (openings (e ∷ h))) ≡ kept ++ accepted_by e =
    ap (λ (l : List Opening). filter is_held (map (job_of (e ∷ h)) l)) os ∙ (jobs_change h e st ∙ (sym (append-nil kept) ∙ ap (λ (l : List (Job C)). kept ++ l) (sym none))) in
    let count : base.accepted + length (openings (e ∷ h)) ≡ base.accepted + length (openings h) + length (accepted_by e) = omega (arith, ap length os, ap length none) in
    let reserve : Opening → ℕ = λ (o : Opening). reserve_of c o.queue in
    let reserve' : Job C → ℕ = λ (v : Job C). reserve_of c v.queue in
    let sums : base.reserved + sum_by reserve (openings (e ∷ h)) ≡ base.reserved + sum_by reserve (openings h) + sum_by reserve' (accepted_by e) =
    omega (arith, ap (sum_by reserve) os, ap (sum_by reserve') none) in
    all_same c _ _ _ _ _ _ _ _ _ _ jobs count sums pr cl

moved_opened : {C : Type 0} (c : Config) (base : Base) (h : List (Event C)) (j s q : ℕ) → Facts base h → is_closed base h ≡ false → j ≡ last base h + 1 → Moved c base h (Opened j s q)
moved_opened {C} c base h j s q f open' is =
    let e : Event C = Opened j s q in
    let o : Opening = record { job = j; sender = s; queue = q } in
    let u = f.fresh j (inr (omega arith)) in
    let new : job_of h o ≡ new_job j s q = rw (u.acts, u.handed, u.back, u.ended (open_first base h open')) refl in
    let last : filter is_held (map (job_of (e ∷ h)) (o ∷ [])) ≡ new_job j s q ∷ [] = ap (λ (v : Job C). filter is_held (v ∷ [])) new in
    let split : filter is_held (map (job_of (e ∷ h)) (openings h ++ o ∷ [])) ≡ filter is_held (map (job_of (e ∷ h)) (openings h)) ++ filter is_held (map (job_of (e ∷ h)) (o ∷ [])) =
    ap (filter is_held) (map-append (job_of (e ∷ h)) (openings h) (o ∷ [])) ∙ filter-append is_held (map (job_of (e ∷ h)) (openings h)) (map (job_of (e ∷ h)) (o ∷ [])) in
    let old = filter is_held (map (change e) (now c base h).jobs) in
    let kept : filter is_held (map (job_of (e ∷ h)) (openings h)) ≡ old = jobs_change h e (λ x gone. gone) in
    let jobs : filter is_held (map (job_of (e ∷ h)) (openings h ++ o ∷ [])) ≡ old ++ new_job j s q ∷ [] =
    split ∙ (ap (λ (l : List (Job C)). l ++ filter is_held (map (job_of (e ∷ h)) (o ∷ []))) kept ∙ ap (λ (l : List (Job C)). old ++ l) last) in
    let count : base.accepted + length (openings h ++ o ∷ []) ≡ base.accepted + length (openings h) + 1 = omega (arith, length_push (openings h) o) in
    let reserve : Opening → ℕ = λ (o : Opening). reserve_of c o.queue in
    let reserve' : Job C → ℕ = λ (v : Job C). reserve_of c v.queue in
    let sums : base.reserved + sum_by reserve (openings h ++ o ∷ []) ≡ base.reserved + sum_by reserve (openings h) + sum_by reserve' (new_job j s q ∷ []) =
    omega (arith, sum_by_push reserve (openings h) o) in
    all_same c _ _ _ _ _ _ _ _ _ _ jobs count sums refl refl

pub moved : {C : Type 0} (size : C → ℕ) (c : Config) (base : Base) (h : List (Event C)) (e : Event C) → IsLegal size c base h → May size (now c base h) e → now c base (e ∷ h) ≡ after e (now c base h)
moved size c base h (Opened k s q) l m = moved_opened c base h k s q (facts size c base h l) m.0 m.4
moved size c base h (AtPrinter p sheet turn) l m = moved_by c base h (AtPrinter p sheet turn) refl refl (stays size c base h (AtPrinter p sheet turn) l m) (printers_turned c base h p sheet turn m.0.0 m.0.1) refl
moved size c base h (Started q) l m = moved_by c base h (Started q) refl refl (stays size c base h (Started q) l m) (printers_started c base h q) refl
moved size c base h e l m = moved_by c base h e refl refl (stays size c base h e l m) refl refl

pub left_by : {C : Type 0} (size : C → ℕ) (base : Base) (h : List (Event C)) (e : Event C) (v : State C) → IsLeftBy size base h v → May size v e → IsLeftBy size base (e ∷ h) (after e v)
left_by {C} size base h e v l m =
    let c = v.config in
    let may : May size (now c base h) e = subst (λ (u : State C). May size u e) l.here m in
    record { legal = (may, l.legal); here = ap (after e) l.here ∙ sym (moved size c base h e l.legal may) }

-- An event that names a job changes the one place where that stands.
use Rattle.std.proofs.Common.{inl, inr, ◌≡◌, ℕ, true, false, List, [], ◌∷◌, ◌++◌, get_or, set, map, refl, sym, ◌∙◌, ap, subst}
use Rattle.std.specs.Prelude.{filter, remove}
use Rattle.std.proofs.lemmas.List.{append-nil}
use Rattle.spool_history.specs.Base.{Base}
use Rattle.spool_history.specs.Events.{Act, Sheet, Turn, Event}
use Rattle.spool_history.specs.Events.Event.{Opened, OfJob, AtPrinter, Started}
use Rattle.config_values.specs.Config.{Config}
use Rattle.spool_history.specs.Now.{Job, State, now, is_held}
use Rattle.spool_history.specs.Steps.{change, acted, turned, new_job, accepted_by}
use Rattle.spool_history.specs.Legal.{IsLegal, May}
use Rattle.spool_laws.proofs.Known.{test}
use Rattle.spool_laws.proofs.Busy.{rising_jobs}
use Rattle.spool_laws.proofs.Moves.{moved}
use Rattle.step_lemmas.specs.Standing.{no_job}
use Rattle.step_lemmas.proofs.HeldJobs.Standing.{Spares, Stands, all_held, none_changed, one_set, one_gone}

-- an act of a job changes it alone
pub act_spares : {C : Type 0} (k : ℕ) (act : Act C) → Spares (change (OfJob k act)) k
act_spares k act z ne = elim (test k z.number) [ inl s ↦ absurd (ne (sym s.0)) | inr s ↦ rw s.1 refl ]

-- and it does so as its act says
pub act_here : {C : Type 0} (k : ℕ) (act : Act C) (z : Job C) → z.number ≡ k → change (OfJob k act) z ≡ acted act z
act_here k act z e = elim (test k z.number) [ inl s ↦ rw s.1 refl | inr s ↦ absurd (s.0 (sym e)) ]

-- a turn of a printer changes the job of its page alone
pub turn_spares : {C : Type 0} (p : ℕ) (sheet : Sheet C) (turn : Turn) → Spares (change (AtPrinter p sheet turn)) sheet.job
turn_spares p sheet turn z ne = elim (test sheet.job z.number) [ inl s ↦ absurd (ne (sym s.0)) | inr s ↦ rw s.1 refl ]

-- and it does so as its turn says
pub turn_here : {C : Type 0} (p : ℕ) (sheet : Sheet C) (turn : Turn) (z : Job C) → z.number ≡ sheet.job → change (AtPrinter p sheet turn) z ≡ turned turn z
turn_here p sheet turn z e = elim (test sheet.job z.number) [ inl s ↦ rw s.1 refl | inr s ↦ absurd (s.0 (sym e)) ]

-- where an act leaves the held jobs, if its job stays held
pub act_set : {C : Type 0} (size : C → ℕ) (c : Config) (base : Base) (h : List (Event C)) (i k : ℕ) (act : Act C) → IsLegal size c base h → Stands (now c base h).jobs i k → is_held (acted act (get_or (now c base h).jobs i no_job)) ≡ true
    → filter is_held (map (change (OfJob k act)) (now c base h).jobs) ≡ set (now c base h).jobs i (acted act (get_or (now c base h).jobs i no_job))
act_set {C} size c base h i k act l s held =
    let jobs = (now c base h).jobs in
    let x = get_or jobs i no_job in
    let here = act_here k act x s.number' in
    one_set (change (OfJob k act)) jobs i no_job s.there (rising_jobs size c base h l) (all_held c base h)
    (subst (λ (n : ℕ). Spares (change (OfJob k act)) n) (sym s.number') (act_spares k act))
    (ap is_held here ∙ held)
    ∙ ap (set jobs i) here

-- and if it is held no more
pub act_gone : {C : Type 0} (size : C → ℕ) (c : Config) (base : Base) (h : List (Event C)) (i k : ℕ) (act : Act C) → IsLegal size c base h → Stands (now c base h).jobs i k → is_held (acted act (get_or (now c base h).jobs i no_job)) ≡ false
    → filter is_held (map (change (OfJob k act)) (now c base h).jobs) ≡ remove (now c base h).jobs i
act_gone {C} size c base h i k act l s gone =
    let jobs = (now c base h).jobs in
    let x = get_or jobs i no_job in
    one_gone (change (OfJob k act)) jobs i no_job s.there (rising_jobs size c base h l) (all_held c base h)
    (subst (λ (n : ℕ). Spares (change (OfJob k act)) n) (sym s.number') (act_spares k act))
    (ap is_held (act_here k act x s.number') ∙ gone)

-- where a turn leaves the held jobs, if the job of its page stays held
pub turn_set : {C : Type 0} (size : C → ℕ) (c : Config) (base : Base) (h : List (Event C)) (i p : ℕ) (sheet : Sheet C) (turn : Turn) → IsLegal size c base h → Stands (now c base h).jobs i sheet.job → is_held (turned turn (get_or (now c base h).jobs i no_job)) ≡ true
    → filter is_held (map (change (AtPrinter p sheet turn)) (now c base h).jobs) ≡ set (now c base h).jobs i (turned turn (get_or (now c base h).jobs i no_job))
turn_set {C} size c base h i p sheet turn l s held =
    let jobs = (now c base h).jobs in
    let x = get_or jobs i no_job in
    let here = turn_here p sheet turn x s.number' in
    one_set (change (AtPrinter p sheet turn)) jobs i no_job s.there (rising_jobs size c base h l) (all_held c base h)
    (subst (λ (n : ℕ). Spares (change (AtPrinter p sheet turn)) n) (sym s.number') (turn_spares p sheet turn))
    (ap is_held here ∙ held)
    ∙ ap (set jobs i) here

-- and if that is held no more
pub turn_gone : {C : Type 0} (size : C → ℕ) (c : Config) (base : Base) (h : List (Event C)) (i p : ℕ) (sheet : Sheet C) (turn : Turn) → IsLegal size c base h → Stands (now c base h).jobs i sheet.job → is_held (turned turn (get_or (now c base h).jobs i no_job)) ≡ false
    → filter is_held (map (change (AtPrinter p sheet turn)) (now c base h).jobs) ≡ remove (now c base h).jobs i
turn_gone {C} size c base h i p sheet turn l s held =
    let jobs = (now c base h).jobs in
    let x = get_or jobs i no_job in
    let here = turn_here p sheet turn x s.number' in
    one_gone (change (AtPrinter p sheet turn)) jobs i no_job s.there (rising_jobs size c base h l) (all_held c base h)
    (subst (λ (n : ℕ). Spares (change (AtPrinter p sheet turn)) n) (sym s.number') (turn_spares p sheet turn))
    (ap is_held here ∙ held)

-- the same of the state that the longer history leaves

-- an event that accepts no job leaves the changed ones that are held
pub jobs_left : {C : Type 0} (size : C → ℕ) (c : Config) (base : Base) (h : List (Event C)) (e : Event C) → IsLegal size c base h → May size (now c base h) e → accepted_by e ≡ [] → (now c base (e ∷ h)).jobs ≡ filter is_held (map (change e) (now c base h).jobs)
jobs_left {C} size c base h e l m none =
    let kept = filter is_held (map (change e) (now c base h).jobs) in
    ap (λ (v : State C). v.jobs) (moved size c base h e l m) ∙ (ap (λ (r : List (Job C)). kept ++ r) none ∙ append-nil kept)

-- after a turn the job of its page has changed at its place, if it stays held
pub turned_jobs : {C : Type 0} (size : C → ℕ) (c : Config) (base : Base) (h : List (Event C)) (i p : ℕ) (sheet : Sheet C) (turn : Turn) → IsLegal size c base h → May size (now c base h) (AtPrinter p sheet turn) → Stands (now c base h).jobs i sheet.job → is_held (turned turn (get_or (now c base h).jobs i no_job)) ≡ true
    → (now c base (AtPrinter p sheet turn ∷ h)).jobs ≡ set (now c base h).jobs i (turned turn (get_or (now c base h).jobs i no_job))
turned_jobs size c base h i p sheet turn l m s held = jobs_left size c base h (AtPrinter p sheet turn) l m refl ∙ turn_set size c base h i p sheet turn l s held

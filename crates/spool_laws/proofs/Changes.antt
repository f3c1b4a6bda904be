-- What one more event makes of what a history says of a job.
use Rattle.std.proofs.Common.{inl, inr, ◌≡◌, ◌==◌, ℕ, Bool, true, false, List, ◌∷◌, refl, ap}
use Rattle.std.specs.List.{list_any}
use Rattle.std.proofs.lemmas.List.{length_push}
use Rattle.spool_history.specs.Events.{Act, Event, Sheet, Turn}
use Rattle.spool_history.specs.Events.Act.{Granted}
use Rattle.spool_history.specs.Events.Progress.{Going}
use Rattle.spool_history.specs.Events.Turn.{Handed, Printed}
use Rattle.spool_history.specs.Events.Event.{OfJob, AtPrinter, Removed}
use Rattle.spool_history.specs.Said.{Opening, handed_of}
use Rattle.spool_history.specs.Now.{job_of}
use Rattle.spool_history.specs.Steps.{change}
use Rattle.std.proofs.lemmas.Bool.{cases_Bool}

-- one more event makes of each job what change says
abbrev pub Changes : {C : Type 0} → List (Event C) → Event C → Type 0
Changes h e = (o : Opening) → job_of (e ∷ h) o ≡ change e (job_of h o)

act_by : {C : Type 0} (h : List (Event C)) (k : ℕ) (act : Act C) (o : Opening) (b : Bool) → (k == o.job) ≡ b → job_of (OfJob k act ∷ h) o ≡ change (OfJob k act) (job_of h o)
act_by h k Granted o true e = rw e refl
act_by h k _ o true e = rw e refl
act_by h k act o false e = rw e refl

turn_by : {C : Type 0} (h : List (Event C)) (p : ℕ) (sheet : Sheet C) (turn : Turn) (o : Opening) (b : Bool) → (sheet.job == o.job) ≡ b → job_of (AtPrinter p sheet turn ∷ h) o ≡ change (AtPrinter p sheet turn) (job_of h o)
turn_by {C} h p sheet Handed o true e = rw e (ap (λ (n : ℕ). record (job_of h o) { handed = n }) (length_push (handed_of h o.job) sheet))
turn_by h p sheet (Printed Going) o true e = rw e refl
turn_by h p sheet _ o true e = rw e refl
turn_by h p sheet turn o false e = rw e refl

pub changes : {C : Type 0} (h : List (Event C)) (e : Event C) → Changes h e
changes h (OfJob k act) o = act_by h k act o (k == o.job) refl
changes h (AtPrinter p sheet turn) o = turn_by h p sheet turn o (sheet.job == o.job) refl
changes h (Removed q jobs) o = elim (cases_Bool (list_any (λ k. k == o.job) jobs)) [ inl e ↦ rw e refl | inr e ↦ rw e refl ]
changes h _ o = refl

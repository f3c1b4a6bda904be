-- How long a page is put off.
use Rattle.std.specs.Prelude.{◌≡◌, ℕ, Bool, true, false, List, ◌++◌}
use Rattle.std.specs.List.{AllByRecursion}
use Rattle.spool_history.specs.Events.{Event}
use Rattle.spool_history.specs.Events.Act.{FileEnded, Controlled, Aborted}
use Rattle.spool_history.specs.Events.Turn.{Printed, Failed}
use Rattle.spool_history.specs.Events.Event.{OfJob, AtPrinter, Removed, Closed}
use Rattle.config_values.specs.Config.{Config}
use Rattle.spool_history.specs.Base.{Base}
use Rattle.spool_history.specs.Now.{now}
use Rattle.spool_history.specs.Legal.{IsLegal, MayGrant}

-- a page comes back, or a job becomes whole or ends
abbrev pub may_help : {C : Type 0} → Event C → Bool
may_help (OfJob j (FileEnded file whole)) = whole
may_help (OfJob j (Controlled control whole)) = whole
may_help (OfJob j Aborted) = true
may_help (AtPrinter p sheet (Printed progress)) = true
may_help (AtPrinter p sheet Failed) = true
may_help (Removed q jobs) = true
may_help Closed = true
may_help _ = false

-- none of these events is such a one
abbrev pub NoneMayHelp : {C : Type 0} → List (Event C) → Type 0
NoneMayHelp events = AllByRecursion (λ e. may_help e ≡ false) events

-- where no page may be lent to a job, none may until a page comes back, or a job becomes whole or ends
abbrev pub PutOffStays : Type 0 → Type 0
PutOffStays C =
    (size : C → ℕ) (c : Config) (b : Base) (h later : List (Event C)) (j : ℕ) → IsLegal size c b (later ++ h)
    → NoneMayHelp later → ¬ (MayGrant (now c b h) j) → ¬ (MayGrant (now c b (later ++ h)) j)

-- How long a printer has nothing to do.
use Rattle.std.specs.Prelude.{◌≡◌, ◌⊎◌, ℕ, ◌==◌, ◌&&◌, Bool, true, false, List, [], ◌∷◌, ◌++◌}
use Rattle.std.specs.List.{list_any}
use Rattle.spool_history.specs.Events.{Event}
use Rattle.spool_history.specs.Events.Act.{FileEnded, Controlled, Aborted}
use Rattle.spool_history.specs.Events.Progress.{Going}
use Rattle.spool_history.specs.Events.Turn.{Printed, Failed}
use Rattle.spool_history.specs.Events.Event.{OfJob, AtPrinter, Removed, Started, Closed}
use Rattle.config_values.specs.Config.{Config, IsPrinter, queue_of}
use Rattle.spool_history.specs.Base.{Base}
use Rattle.spool_history.specs.Now.{Job, State, now}
use Rattle.spool_history.specs.Next.{next_page}
use Rattle.spool_history.specs.Next.Next.{Nothing, Stops}
use Rattle.spool_history.specs.Legal.{IsLegal}

-- one of these jobs is the one of this number, and of this queue
abbrev pub has_of : {C : Type 0} → List (Job C) → (queue number : ℕ) → Bool
has_of {C} jobs q j = list_any (λ (v : Job C). (v.queue == q) && (v.number == j)) jobs

-- a job of this queue becomes whole, ends or goes, the queue is started, or the spool closes
abbrev pub may_serve : {C : Type 0} → State C → (queue : ℕ) → Event C → Bool
may_serve v q (OfJob j (FileEnded file whole)) = whole && has_of v.jobs q j
may_serve v q (OfJob j (Controlled control whole)) = whole && has_of v.jobs q j
may_serve v q (OfJob j Aborted) = has_of v.jobs q j
may_serve v q (AtPrinter p sheet (Printed Going)) = false
may_serve v q (AtPrinter p sheet (Printed progress)) = has_of v.jobs q sheet.job
may_serve v q (AtPrinter p sheet Failed) = has_of v.jobs q sheet.job
may_serve v q (Removed r jobs) = r == q
may_serve v q (Started r) = r == q
may_serve v q Closed = true
may_serve v q _ = false

-- none of the later events is such a one, where it comes
abbrev pub NoneMayServe : {C : Type 0} → Config → Base → (queue : ℕ) → List (Event C) → List (Event C) → Type 0
NoneMayServe c b q [] h = Unit {0}
NoneMayServe c b q (e ∷ later) h = (may_serve (now c b (later ++ h)) q e ≡ false) × NoneMayServe c b q later h

-- nothing is next for the printer, or it is stopped
abbrev pub HasNothing : {C : Type 0} → State C → (printer : ℕ) → Type 0
HasNothing v p = (next_page v p ≡ Nothing) ⊎ (next_page v p ≡ Stops)

-- where a printer has nothing to do, it has nothing until a job of its queue becomes whole, ends or goes, its queue is
-- started, or the spool closes
abbrev pub NothingStays : Type 0 → Type 0
NothingStays C =
    (size : C → ℕ) (c : Config) (b : Base) (h later : List (Event C)) (p : ℕ) → IsPrinter c p → IsLegal size c b (later ++ h)
    → NoneMayServe c b (queue_of c p) later h → HasNothing (now c b h) p → HasNothing (now c b (later ++ h)) p

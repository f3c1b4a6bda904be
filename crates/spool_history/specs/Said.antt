-- What a history says of each job and each printer.
use Rattle.std.specs.Prelude.{ℕ, ◌+◌, ◌==◌, ◌||◌, ◌&&◌, not, Bool, true, false, List, [], ◌∷◌, ◌++◌, Option, Some, None, if◌then◌else◌}
use Rattle.std.specs.List.{list_any}
use Rattle.spool_history.specs.Base.{Base, was_stopped}
use Rattle.spool_history.specs.Events.{Act, Sheet, Turn, Event}
use Rattle.spool_history.specs.Events.Act.{Aborted}
use Rattle.spool_history.specs.Events.Progress.{Done}
use Rattle.spool_history.specs.Events.Turn.{Handed, Printed, Failed}
use Rattle.spool_history.specs.Events.Event.{Opened, OfJob, AtPrinter, Removed, Started, Closed}

-- a job that was accepted
pub record Opening : Type 0 where
  pub job : ℕ
  pub sender : ℕ
  pub queue : ℕ

-- the accepted jobs, in order of acceptance
abbrev pub openings : {C : Type 0} → List (Event C) → List Opening
openings [] = []
openings (Opened j sender queue ∷ h) = openings h ++ record { job = j; sender = sender; queue = queue } ∷ []
openings (_ ∷ h) = openings h

-- what a job's session did, the newest first
abbrev pub acts_of : {C : Type 0} → List (Event C) → ℕ → List (Act C)
acts_of [] j = []
acts_of (OfJob k act ∷ h) j = if k == j then act ∷ acts_of h j else acts_of h j
acts_of (_ ∷ h) j = acts_of h j

abbrev pub is_handed : Turn → Bool
is_handed Handed = true
is_handed _ = false

-- the pages of a job that were handed to a printer, in order
abbrev pub handed_of : {C : Type 0} → List (Event C) → ℕ → List (Sheet C)
handed_of [] j = []
handed_of (AtPrinter p sheet turn ∷ h) j =
    if (sheet.job == j) && is_handed turn then handed_of h j ++ sheet ∷ [] else handed_of h j
handed_of (_ ∷ h) j = handed_of h j

-- how many of its pages came back from one
abbrev pub back_of : {C : Type 0} → List (Event C) → ℕ → ℕ
back_of [] j = 0
back_of (AtPrinter p sheet turn ∷ h) j = if (sheet.job == j) && not (is_handed turn) then back_of h j + 1 else back_of h j
back_of (_ ∷ h) j = back_of h j

abbrev pub ends_by_turn : Turn → Bool
ends_by_turn (Printed Done) = true
ends_by_turn Failed = true
ends_by_turn _ = false

abbrev pub ends_by_act : {C : Type 0} → Act C → Bool
ends_by_act Aborted = true
ends_by_act _ = false

-- whether an event ends a job: its last place was printed, a page of it failed, it was removed or aborted, or the spool was closed
abbrev pub ends : {C : Type 0} → ℕ → Event C → Bool
ends j (Opened k sender queue) = false
ends j (OfJob k act) = (k == j) && ends_by_act act
ends j (AtPrinter p sheet turn) = (sheet.job == j) && ends_by_turn turn
ends j (Removed queue jobs) = list_any (λ k. k == j) jobs
ends j (Started queue) = false
ends j Closed = true

abbrev pub has_ended : {C : Type 0} → List (Event C) → ℕ → Bool
has_ended h j = list_any (ends j) h

-- its last place was printed
abbrev pub is_done : {C : Type 0} → List (Event C) → ℕ → Bool
is_done [] j = false
is_done (AtPrinter p sheet (Printed Done) ∷ h) j = (sheet.job == j) || is_done h j
is_done (_ ∷ h) j = is_done h j

-- the page that is out at a printer
abbrev pub out_at : {C : Type 0} → List (Event C) → ℕ → Option (Sheet C)
out_at [] p = None
out_at (AtPrinter q sheet turn ∷ h) p = if q == p then (if is_handed turn then Some sheet else None) else out_at h p
out_at (_ ∷ h) p = out_at h p

-- the job that a printer began last
abbrev pub began_at : {C : Type 0} → List (Event C) → ℕ → Option ℕ
began_at [] p = None
began_at (AtPrinter q sheet turn ∷ h) p = if (q == p) && is_handed turn then Some sheet.job else began_at h p
began_at (_ ∷ h) p = began_at h p

abbrev pub is_failed : Turn → Bool
is_failed Failed = true
is_failed _ = false

-- whether a printer of a queue is stopped: it was, or a page failed at it, and the queue wasn't started since
abbrev pub is_stopped_at : {C : Type 0} → Base → List (Event C) → (queue printer : ℕ) → Bool
is_stopped_at b [] q p = was_stopped b p
is_stopped_at b (AtPrinter r sheet turn ∷ h) q p = ((r == p) && is_failed turn) || is_stopped_at b h q p
is_stopped_at b (Started r ∷ h) q p = if r == q then false else is_stopped_at b h q p
is_stopped_at b (_ ∷ h) q p = is_stopped_at b h q p

-- whether the spool is closed: it was, or the close came
abbrev pub is_closed : {C : Type 0} → Base → List (Event C) → Bool
is_closed b [] = b.closed
is_closed b (Closed ∷ h) = true
is_closed b (_ ∷ h) = is_closed b h

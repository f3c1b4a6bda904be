-- Which event of a history a request of a session shows with its answer.
use Rattle.std.specs.Prelude.{ℕ, ◌-◌, ◌==◌, ◌&&◌, not, Bool, true, false, List, [], ◌∷◌, Option, Some, None, map, length, find, if◌then◌else◌, slice_index_or}
use Rattle.std.specs.List.{list_any}
use Rattle.config_values.specs.Config.{queue_named}
use Rattle.receiver.specs.Script.{Request, Open, BeginFile, AskPage, Filled, EndFile, Control, AbortJob, StartPrinters, RemoveJobs}
use Rattle.spool_history.specs.Events.{Event}
use Rattle.spool_history.specs.Events.Act.{Granted, Began, Put, FileEnded, Controlled, Aborted}
use Rattle.spool_history.specs.Events.Event.{Opened, OfJob, Removed, Started}
use Rattle.spool_history.specs.Acts.{File, new_file}
use Rattle.spool_history.specs.Now.{Job, Printer, State, is_received}
use Rattle.spool_history.specs.Choice.{chosen}
use Rattle.spool_calls.specs.Looks.{Detail, What, see}
use Rattle.spool_requests.specs.declared.answer.Answer.{Answer}
use Rattle.spool_requests.specs.declared.answer.Answer.TheVariants.{Yes, Accepted, Lent, Stored, Received, Told}

-- the files of a job, if there is one
abbrev pub files_in : {C : Type 0} → Option (Job C) → List (File C)
files_in None = []
files_in (Some job) = job.files

-- the files of the held job of a number
abbrev pub files_at : {C : Type 0} → State C → ℕ → List (File C)
files_at v j = files_in (find (λ w. w.number == j) v.jobs)

-- the number of its last file
abbrev pub file_now : {C : Type 0} → State C → ℕ → ℕ
file_now v j = length (files_at v j) - 1

-- and of the page that comes next into that
abbrev pub page_now : {C : Type 0} → State C → ℕ → ℕ
page_now v j = length (slice_index_or (files_at v j) (file_now v j) (new_file [] 0)).pages

-- whether a printer of a queue is stopped
abbrev pub has_stopped : {C : Type 0} → State C → ℕ → Bool
has_stopped {C} v q = list_any (λ (p : Printer C). (p.queue == q) && p.stopped) v.printers

-- a start shows something where a printer is stopped
abbrev pub start_of : {C : Type 0} → Bool → ℕ → Option (Event C)
start_of stopped q = if stopped then Some (Started q) else None

-- a removal shows something where a job is chosen
abbrev pub removal_of : {C : Type 0} → ℕ → List ℕ → Option (Event C)
removal_of q [] = None
removal_of q (j ∷ js) = Some (Removed q (j ∷ js))

-- the numbers of the jobs that a removal takes
abbrev pub numbers_chosen : {C : Type 0} → State C → ℕ → List ℕ → List (List ℕ) → List ℕ
numbers_chosen {C} v q agent list = map (λ (w : Job C). w.number) (chosen v q agent list)

-- The event that a request of a session shows with its answer, if any: the session is of this sender, and the job that it
-- has in hand has this number. Names, counts, pages and control files are those of the request.
abbrev pub event_of : (d : Detail) → State (What d) → (sender job : ℕ) → Request → Answer → Option (Event (What d))
event_of d v sender job (Open name) (Accepted number) = Some (Opened number sender (queue_named v.config name))
event_of d v sender job (BeginFile name count) Yes = Some (OfJob job (Began name count))
event_of d v sender job AskPage (Lent size) = Some (OfJob job Granted)
event_of d v sender job (Filled page) Yes = Some (OfJob job (Put (file_now v job) (page_now v job) (see d page.octets)))
event_of d v sender job EndFile Stored = Some (OfJob job (FileEnded (file_now v job) false))
event_of d v sender job EndFile Received = Some (OfJob job (FileEnded (file_now v job) true))
event_of d v sender job (Control control) Stored = Some (OfJob job (Controlled control false))
event_of d v sender job (Control control) Received = Some (OfJob job (Controlled control true))
event_of d v sender job AbortJob Yes = Some (OfJob job Aborted)
event_of d v sender job (StartPrinters name) Yes =
    start_of (has_stopped v (queue_named v.config name)) (queue_named v.config name)
event_of d v sender job (RemoveJobs name agent list) (Told text) =
    removal_of (queue_named v.config name) (numbers_chosen v (queue_named v.config name) agent list)
event_of d v sender job _ _ = None

-- a job may be aborted while it is being received, and gives a page back where it has ended with one lent to it
abbrev pub is_abortable : {C : Type 0} → Job C → Bool
is_abortable w = if w.ended then w.lent else not (is_received w)

abbrev pub may_abort : {C : Type 0} → State C → ℕ → Bool
may_abort {C} v j = list_any (λ (w : Job C). (w.number == j) && is_abortable w) v.jobs

-- the end of a session aborts the job that it has in hand, if it has one
abbrev pub end_of : {C : Type 0} → State C → (in_hand : Bool) → (job : ℕ) → Option (Event C)
end_of v in_hand j = if in_hand && may_abort v j then Some (OfJob j Aborted) else None

abbrev pub with_event : {C : Type 0} → Option (Event C) → List (Event C) → List (Event C)
with_event None h = h
with_event (Some e) h = e ∷ h

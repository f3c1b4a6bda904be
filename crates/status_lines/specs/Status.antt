-- The whole answer: which lines it has, in which order.
use Rattle.std.specs.Prelude.{ℕ, ◌+◌, ◌==◌, Bool, false, List, [], ◌∷◌, ◌++◌, Option, Some, None, if◌then◌else◌, slice_get, slice_index_or}
use Rattle.std.specs.List.{flat_map}
use Rattle.claims.specs.declared.row.Row.{Row}
use Rattle.claims.specs.Claims.{row_at}
use Rattle.counts.specs.Amounts.{amount}
use Rattle.config_values.specs.Config.{Config, Queue, queue_at}
use Rattle.spool_calls.specs.declared.printer.Printer.{Printer}
use Rattle.spool_snapshot.specs.declared.job.SeenJob.{SeenJob}
use Rattle.spool_snapshot.specs.declared.snapshot.Snapshot.{Snapshot}
use Rattle.status_lines.specs.declared.line.SpoolState.{SpoolState}
use Rattle.status_lines.specs.declared.line.SpoolState.TheVariants as spool
use Rattle.status_lines.specs.declared.line.QueueState.{QueueState}
use Rattle.status_lines.specs.declared.line.QueueState.TheVariants as queue
use Rattle.standings.specs.declared.noted.EdgeNotes.{EdgeNotes}
use Rattle.standings.specs.declared.numbers.JobNumbers.{JobNumbers}
use Rattle.standings.specs.declared.printer.PrinterStanding.{PrinterStanding}
use Rattle.standings.specs.declared.printer.PrinterStanding.TheVariants as printer
use Rattle.standings.specs.Jobs.{job_standing}
use Rattle.standings.specs.Noted.{is_held}
use Rattle.standings.specs.Printers.{cause_of, printer_standing}
use Rattle.status_lines.specs.declared.line.PrinterTrouble.TheVariants as trouble
use Rattle.status_lines.specs.declared.line.JobPages.{JobPages}
use Rattle.status_lines.specs.declared.outside.KeptJobs.{KeptJobs}
use Rattle.status_lines.specs.declared.outside.Outside.{Outside}
use Rattle.status_lines.specs.declared.outside.SeenSession.{SeenSession}
use Rattle.status_lines.specs.Pieces.{one_line}
use Rattle.status_lines.specs.Words.{entries_words, job_words, kept_words, lobby_words, pages_words, parked_words, printer_line, queue_words, session_words, spool_words, trouble_line, uptime_words}

-- the texts of elements by their places, the first of which has this one
abbrev pub placed : {X : Type 0} → (ℕ → X → List ℕ) → ℕ → List X → List ℕ
placed text at [] = []
placed text at (x ∷ xs) = text at x ++ placed text (at + 1) xs

-- a line with its LF
abbrev pub ended : List ℕ → List ℕ
ended line = line ++ 10 ∷ []

-- a closed spool is closed, whatever the server was asked
abbrev pub spool_state : (closed stops : Bool) → SpoolState
spool_state closed stops = if closed then spool.Closed else (if stops then spool.Stops else spool.Runs)

-- what is told first: the server, its spool, the pages, the account and the lobby
abbrev pub head_text : Config → Snapshot → Outside → List ℕ
head_text c s o =
    ended (uptime_words o.uptime) ++ (ended (spool_words (spool_state s.closed o.stops)) ++ (ended (pages_words s.pages) ++ (
    ended (entries_words s.reserved c.account o.segment) ++ ended (lobby_words o.lobby))))

-- the line of the folder that keeps the jobs, where there is one
abbrev pub kept_text : Option KeptJobs → List ℕ
kept_text None = []
kept_text (Some kept) = ended (kept_words kept.waiting kept.failed)

-- how many jobs of the queue at a place wait in the folder, where some do
abbrev pub parked_text : List ℕ → ℕ → Queue → List ℕ
parked_text parked at q =
    if slice_index_or parked at 0 == 0 then [] else ended (parked_words q.name (slice_index_or parked at 0))

-- so it is told of the queues in the order of the configuration
abbrev pub all_parked_text : Config → List ℕ → List ℕ
all_parked_text c parked = placed (parked_text parked) 0 c.queues

abbrev pub session_text : SeenSession → List ℕ
session_text s = ended (session_words s.peer s.silent)

-- whether the queue at a place is held
abbrev pub queue_state : List Bool → ℕ → QueueState
queue_state held at = if slice_index_or held at false then queue.Held else queue.Runs

-- the lines of a printer that stands so, for a cause
abbrev pub printer_told : ℕ → List ℕ → PrinterStanding → List ℕ → List ℕ
printer_told number name printer.Idle cause = ended (printer_line number name printer.Idle)
printer_told number name printer.Held cause = ended (printer_line number name printer.Held)
printer_told number name (printer.Printing job place) cause = ended (printer_line number name (printer.Printing job place))
printer_told number name (printer.Unreached job place seconds) cause =
    ended (printer_line number name (printer.Unreached job place seconds)) ++ ended (trouble_line number name trouble.Unreached seconds (one_line cause))
printer_told number name (printer.PutOff seconds) cause =
    ended (printer_line number name (printer.PutOff seconds)) ++ ended (trouble_line number name trouble.PutOff seconds (one_line cause))
printer_told number name (printer.Stopped None) cause = ended (printer_line number name (printer.Stopped None))
printer_told number name (printer.Stopped (Some seconds)) cause = ended (trouble_line number name trouble.Stopped seconds (one_line cause))

-- how the printer at a place stands
abbrev pub standing_at : EdgeNotes → ℕ → Printer → PrinterStanding
standing_at e at p = printer_standing p (is_held e.held.now p.queue) (slice_get e.printers.now at)

-- the lines of the printer at a place, where it serves the queue of this number; printers are numbered from 1
abbrev pub printer_text : (queue : ℕ) → List ℕ → EdgeNotes → ℕ → Printer → List ℕ
printer_text number name e at p =
    if p.queue == number then printer_told (at + 1) name (standing_at e at p) (cause_of (standing_at e at p) (slice_get e.printers.now at)) else []

-- the lines of the queue at a place and of its printers; queues are numbered from 1
abbrev pub queue_text : List Printer → EdgeNotes → ℕ → Queue → List ℕ
queue_text printers e at q =
    ended (queue_words q.name (queue_state e.held.now at)) ++ placed (printer_text (at + 1) q.name e) 0 printers

-- what a row of the table of claims says of pages
abbrev pub pages_in : Row → JobPages
pages_in row = record { holds = amount row.held 0; needs = amount row.need 0 }

abbrev pub no_numbers : JobNumbers
no_numbers = record { file = None; client = None }

-- what the job at a place is called
abbrev pub numbers_at : List JobNumbers → ℕ → JobNumbers
numbers_at numbers at = slice_index_or numbers at no_numbers

-- the line of the held job at a place, of which the row at the same place tells what it holds and may still need
abbrev pub job_text : Config → Snapshot → EdgeNotes → ℕ → SeenJob → List ℕ
job_text c s e at j =
    ended (job_words j (queue_at c j.queue).name (pages_in (row_at s.claims.rows at)) (numbers_at e.numbers.now at) (job_standing s e c.page_size j))

-- the queues in the order of the configuration, each with its printers under it
abbrev pub queues_text : Config → List Printer → EdgeNotes → List ℕ
queues_text c printers e = placed (queue_text printers e) 0 c.queues

-- the held jobs in order of acceptance
abbrev pub jobs_text : Config → Snapshot → EdgeNotes → List ℕ
jobs_text c s e = placed (job_text c s e) 0 s.jobs.items

abbrev pub status_text : Config → Snapshot → Outside → List ℕ
status_text c s o =
    head_text c s o ++ (kept_text o.kept ++ (all_parked_text c o.parked.now ++ (flat_map session_text o.sessions.now ++ (
    queues_text c s.printers.items o.noted ++ jobs_text c s o.noted))))

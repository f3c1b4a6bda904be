-- How a job stands.
use Rattle.std.specs.Prelude.{ℕ, ◌+◌, ◌==◌, ◌&&◌, Bool, false, List, Option, Some, None, find, if◌then◌else◌, is_some, max, nat_lt, option_copied, position, slice_get}
use Rattle.std.specs.Int.{div_ceil}
use Rattle.std.specs.List.{list_any}
use Rattle.account.specs.declared.entry.Sheet.{Sheet}
use Rattle.claims.specs.Claims.{Claims}
use Rattle.counts.specs.Amounts.{amount}
use Rattle.job_files.specs.declared.names.FileStage.{FileStage}
use Rattle.job_files.specs.declared.names.FileStage.TheVariants as file
use Rattle.spool_calls.specs.declared.printer.Printer.{Printer}
use Rattle.spool_snapshot.specs.declared.job.SeenJob.{SeenJob}
use Rattle.spool_snapshot.specs.declared.snapshot.Snapshot.{Snapshot}
use Rattle.standings.specs.declared.job.JobStanding.{JobStanding}
use Rattle.standings.specs.declared.job.JobStanding.TheVariants as job
use Rattle.standings.specs.declared.noted.EdgeNotes.{EdgeNotes}
use Rattle.standings.specs.declared.stage.JobStage.{JobStage}
use Rattle.standings.specs.declared.stage.JobStage.TheVariants as far
use Rattle.standings.specs.declared.turns.FinishingTurn.{FinishingTurn}
use Rattle.standings.specs.Noted.{is_held, unreached_in}
use Rattle.standings.specs.Printers.{count_at, is_reached_for, runs_for}
use Rattle.standings.specs.Stages.{stage_of}
use Rattle.standings.specs.Turns.{keeper_before}

-- an earlier job of one sender and queue
abbrev pub goes_before : SeenJob → SeenJob → Bool
goes_before j other = (nat_lt other.number j.number && (other.sender == j.sender)) && (other.queue == j.queue)

abbrev pub number_of : Option SeenJob → Option ℕ
number_of None = None
number_of (Some j) = Some j.number

-- the first of the jobs that go before this one
abbrev pub first_before : List SeenJob → SeenJob → Option ℕ
first_before jobs j = number_of (find (goes_before j) jobs)

abbrev pub is_of : ℕ → Option Sheet → Bool
is_of number None = false
is_of number (Some sheet) = sheet.job == number

-- a page of the job of this number is at a printer
abbrev pub has_page_of : ℕ → Printer → Bool
has_page_of number p = is_of number p.out

-- Of a job that comes: as many pages as its octets take, as far as its files are told; it may have come to more, since each file begins a
-- page of its own.
abbrev pub pages_told : (page_size octets came : ℕ) → ℕ
pages_told size octets came = max (div_ceil octets (max size 1)) came

abbrev pub came_standing : ℕ → SeenJob → JobStanding
came_standing size j = if j.octets == 0 then job.Begun else job.Arriving j.granted (pages_told size j.octets j.granted)

abbrev pub kept_standing : Option ℕ → JobStanding
kept_standing None = job.PageWanted
kept_standing (Some number) = job.PagesKept number

abbrev pub keeper_in : ℕ → Option (List FinishingTurn) → Option ℕ
keeper_in number None = None
keeper_in number (Some turns) = keeper_before number turns

-- of a job whose session waits for a page
abbrev pub unlent_standing : Claims → EdgeNotes → ℕ → JobStanding
unlent_standing claims e number =
    if amount claims.free 0 == 0 then job.NoPageFree else kept_standing (keeper_in number (option_copied e.turns))

-- its session waits for a page
abbrev pub is_put_off : List ℕ → ℕ → Bool
is_put_off put_off number = list_any (λ n. n == number) put_off

-- of a job that is being received
abbrev pub arriving_standing : ℕ → Claims → EdgeNotes → SeenJob → JobStanding
arriving_standing size claims e j =
    if is_put_off e.put_off.now j.number then unlent_standing claims e j.number else came_standing size j

-- its printers, of which the first that runs is at this place: it may be that none of them is reached
abbrev pub served_standing : Option ℕ → (reached : ℕ) → JobStanding
served_standing None reached = job.PrintersStopped
served_standing (Some at) reached = if reached == 0 then job.PrinterUnreached (at + 1) else job.PrinterWanted

abbrev pub printer_wait : Snapshot → EdgeNotes → SeenJob → JobStanding
printer_wait s e j =
    if is_held e.held.now j.queue then job.QueueHeld else served_standing (position (runs_for j.queue) s.printers.items) (count_at (is_reached_for e.printers.now j.queue) 0 s.printers.items)

abbrev pub behind_standing : Option ℕ → JobStanding → JobStanding
behind_standing None other = other
behind_standing (Some number) other = job.Behind number

-- of a whole job of which no page was handed to a printer
abbrev pub waiting_standing : Snapshot → EdgeNotes → SeenJob → JobStanding
waiting_standing s e j = behind_standing (first_before s.jobs.items j) (printer_wait s e j)

-- of a whole job of which a page is at the printer at a place, or nowhere
abbrev pub placed_standing : Option ℕ → Snapshot → EdgeNotes → SeenJob → JobStanding
placed_standing None s e j = if j.handed == 0 then waiting_standing s e j else job.NextPageDue
placed_standing (Some at) s e j =
    if is_some (unreached_in (slice_get e.printers.now at)) then job.PrinterUnreached (at + 1) else job.Printing (at + 1) j.handed

abbrev pub received_standing : Snapshot → EdgeNotes → SeenJob → JobStanding
received_standing s e j = placed_standing (position (has_page_of j.number) s.printers.items) s e j

abbrev pub standing_at : JobStage → Snapshot → EdgeNotes → ℕ → SeenJob → JobStanding
standing_at far.Arriving s e size j = arriving_standing size s.claims e j
standing_at far.Waiting s e size j = received_standing s e j
standing_at far.Printing s e size j = received_standing s e j
standing_at far.Ended s e size j = job.Ending

-- of a held job, in a spool whose pages have so many octets
abbrev pub job_standing : Snapshot → EdgeNotes → ℕ → SeenJob → JobStanding
job_standing s e size j = standing_at (stage_of j) s e size j

-- of a job that is in the folder alone
abbrev pub file_standing : FileStage → Option JobStanding
file_standing file.Temporary = None
file_standing file.Whole = Some job.KeptInFolder
file_standing file.Failed = Some job.FailedInFolder

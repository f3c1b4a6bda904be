-- What the page says of a printer, a job, the spool and the pool.
use Rattle.std.specs.Prelude.{ℕ, ◌+◌, ◌-◌, ◌*◌, ◌/◌, ◌^◌, ◌==◌, List, [], ◌∷◌, ◌++◌, Option, Some, None, codes, if◌then◌else◌, max, min}
use Rattle.std.specs.Fmt.{decimal}
use Rattle.server_counts.specs.declared.hour.Look.{Look}
use Rattle.spool_snapshot.specs.declared.job.SeenJob.{SeenJob}
use Rattle.spool_snapshot.specs.declared.snapshot.Pages.{Pages}
use Rattle.standings.specs.declared.job.JobStanding.{JobStanding}
use Rattle.standings.specs.declared.job.JobStanding.TheVariants as job
use Rattle.standings.specs.declared.numbers.JobName.{JobName}
use Rattle.standings.specs.declared.printer.PrinterStanding.{PrinterStanding}
use Rattle.standings.specs.declared.printer.PrinterStanding.TheVariants as printer
use Rattle.standings.specs.declared.stage.JobStage.{JobStage}
use Rattle.standings.specs.declared.stage.JobStage.TheVariants as far
use Rattle.standings.specs.declared.turns.FinishingTurn.{FinishingTurn}
use Rattle.standings.specs.Turns.{claim_of, counted}
use Rattle.standings.specs.Words.{name_words}
use Rattle.status_lines.specs.declared.line.SpoolState.{SpoolState}
use Rattle.status_lines.specs.declared.line.SpoolState.TheVariants as spool
use Rattle.status_page.specs.declared.rates.Rate.{Rate}
use Rattle.status_page.specs.declared.rates.Rate.TheVariants as rate
use Rattle.status_page.specs.declared.said.JobColumn.{JobColumn}
use Rattle.status_page.specs.declared.said.JobColumn.TheVariants as column
use Rattle.status_page.specs.declared.said.PagePlace.{PagePlace}
use Rattle.status_page.specs.declared.said.PagePlace.TheVariants as place
use Rattle.status_page.specs.declared.said.SenderPart.{SenderPart}
use Rattle.status_page.specs.declared.said.SenderPart.TheVariants as part
use Rattle.status_page.specs.Figures.{grouped_words, size_words, span_words}

-- how a printer stands
abbrev pub printer_word : PrinterStanding → List ℕ
printer_word printer.Idle = codes "idle"
printer_word printer.Held = codes "idle, its queue is held"
printer_word (printer.Printing job place) = codes "job " ++ decimal job
printer_word (printer.Unreached job place seconds) = codes "not reached"
printer_word (printer.PutOff seconds) = codes "not reached"
printer_word (printer.Stopped seconds) = codes "stopped"

-- since when something is the matter, and what
abbrev pub since_words : ℕ → List ℕ → List ℕ
since_words seconds cause = span_words seconds ++ (codes ": " ++ cause)

-- which job waits there
abbrev pub there_words : ℕ → List ℕ
there_words number = codes "; job " ++ (decimal number ++ codes " waits there")

-- and more of it: pages are numbered from 1
abbrev pub printer_remark : PrinterStanding → List ℕ → List ℕ
printer_remark printer.Idle cause = []
printer_remark printer.Held cause = []
printer_remark (printer.Printing job place) cause = codes "page " ++ grouped_words (counted (place + 1))
printer_remark (printer.Unreached job place seconds) cause =
    since_words seconds cause ++ there_words job
printer_remark (printer.PutOff seconds) cause = since_words seconds cause ++ codes "; its jobs wait in the folder"
printer_remark (printer.Stopped None) cause = []
printer_remark (printer.Stopped (Some seconds)) cause = since_words seconds cause

-- of which printed job it isn't known whether all of it came
abbrev pub doubt_words : ℕ → List ℕ
doubt_words number = codes "job " ++ (decimal number ++ codes " was printed, but its last octets may not have come")

abbrev pub printer_kind : PrinterStanding → List ℕ
printer_kind printer.Idle = codes "idle"
printer_kind printer.Held = codes "idle"
printer_kind (printer.Printing job place) = codes "busy"
printer_kind (printer.Unreached job place seconds) = codes "stopped"
printer_kind (printer.PutOff seconds) = codes "stopped"
printer_kind (printer.Stopped seconds) = codes "stopped"

-- how many jobs of a queue wait in the folder
abbrev pub parked_words : ℕ → List ℕ
parked_words jobs = if jobs == 1 then codes "1 job waits in the folder" else grouped_words jobs ++ codes " jobs wait in the folder"

abbrev pub sender_octets : SenderPart → SeenJob → List ℕ
sender_octets part.User job = job.user
sender_octets part.Host job = job.host

abbrev pub stage_word : JobStage → List ℕ
stage_word far.Arriving = codes "arriving"
stage_word far.Waiting = codes "waiting"
stage_word far.Printing = codes "printing"
stage_word far.Ended = codes "ended"

-- one whose printer isn't reached waits, unless it comes still
abbrev pub unreached_word : JobStage → List ℕ
unreached_word far.Arriving = codes "arriving"
unreached_word _ = codes "waiting"

-- how far a job is, that stands so
abbrev pub job_word : JobStage → JobStanding → List ℕ
job_word stage (job.PrinterUnreached number) = unreached_word stage
job_word stage _ = stage_word stage

-- a job goes on, stays for others, or needs somebody
abbrev pub job_kind : JobStanding → List ℕ
job_kind job.Begun = codes "st"
job_kind (job.Arriving came told) = codes "st"
job_kind job.NoPageFree = codes "st stay"
job_kind (job.PagesKept number) = codes "st stay"
job_kind job.PageWanted = codes "st stay"
job_kind (job.Behind number) = codes "st stay"
job_kind job.PrinterWanted = codes "st"
job_kind job.QueueHeld = codes "st stay"
job_kind job.PrintersStopped = codes "st ill"
job_kind (job.PrinterUnreached number) = codes "st ill"
job_kind (job.Printing number page) = codes "st go"
job_kind job.NextPageDue = codes "st go"
job_kind job.Ending = codes "st ill"
job_kind job.KeptInFolder = codes "st"
job_kind job.FailedInFolder = codes "st ill"

-- for how long, where that is known
abbrev pub age_words : Option ℕ → List ℕ
age_words None = []
age_words (Some seconds) = span_words seconds

-- what stands in a column of a job's row
abbrev pub column_words : JobColumn → SeenJob → JobName → Option ℕ → List ℕ
column_words column.Name job name age = name_words name
column_words column.Pages job name age = grouped_words job.granted
column_words column.Size job name age = size_words job.octets
column_words column.HeldFor job name age = age_words age

abbrev pub spool_word : SpoolState → List ℕ
spool_word spool.Runs = []
spool_word spool.Stops = codes "stopping"
spool_word spool.Closed = codes "closed"

-- how many pages are at a place
abbrev pub place_count : PagePlace → Pages → ℕ
place_count place.Out pages = pages.out
place_count place.Lent pages = pages.lent
place_count place.Chained pages = pages.chained
place_count place.Free pages = pages.free

abbrev pub place_words : PagePlace → List ℕ
place_words place.Out = codes "at printers"
place_words place.Lent = codes "lent to sessions"
place_words place.Chained = codes "full, of jobs"
place_words place.Free = codes "free"

-- the numbers of a turn: the job's claim, what it holds and may need, and what is free then
abbrev pub turn_numbers : FinishingTurn → List ℕ
turn_numbers turn = claim_of turn ∷ turn.holds ∷ turn.needs ∷ turn.free ∷ []

-- how many there were until a look
abbrev pub total_at : Rate → Look → ℕ
total_at rate.Jobs look = look.done
total_at rate.Octets look = look.octets

-- how many there were a minute from one look to the next
abbrev pub rate_between : Rate → Look → Look → ℕ
rate_between what earlier later =
    min ((total_at what later - total_at what earlier) * 60) (2 ^ 64 - 1) / max (later.second - earlier.second) 1

-- What each line says, without its LF.
use Rattle.std.specs.Prelude.{ℕ, List, [], ◌++◌, Option, Some, None, codes}
use Rattle.std.specs.Fmt.{decimal}
use Rattle.std.specs.Int.{w32, to_be_bytes}
use Rattle.std.specs.Net.Text.{ipv4_text, socket_text}
use Rattle.std.specs.declared.net.SocketAddr.{SocketAddr}
use Rattle.control_lines.specs.Escapes.{escaped}
use Rattle.spool_snapshot.specs.declared.job.SeenJob.{SeenJob}
use Rattle.spool_snapshot.specs.declared.snapshot.Pages.{Pages}
use Rattle.status_lines.specs.declared.line.SpoolState.{SpoolState}
use Rattle.status_lines.specs.declared.line.SpoolState.TheVariants as spool
use Rattle.status_lines.specs.declared.line.QueueState.{QueueState}
use Rattle.status_lines.specs.declared.line.QueueState.TheVariants as queue
use Rattle.standings.specs.declared.job.JobStanding.{JobStanding}
use Rattle.standings.specs.declared.numbers.JobNumbers.{JobNumbers}
use Rattle.standings.specs.declared.printer.PrinterStanding.{PrinterStanding}
use Rattle.standings.specs.declared.printer.PrinterStanding.TheVariants as printer
use Rattle.standings.specs.declared.stage.JobStage.{JobStage}
use Rattle.standings.specs.declared.stage.JobStage.TheVariants as far
use Rattle.standings.specs.Stages.{stage_of}
use Rattle.standings.specs.Words.{standing_words, three_digits}
use Rattle.status_lines.specs.declared.line.PrinterTrouble.{PrinterTrouble}
use Rattle.status_lines.specs.declared.line.PrinterTrouble.TheVariants as trouble
use Rattle.status_lines.specs.declared.line.JobPages.{JobPages}
use Rattle.status_lines.specs.declared.line.StatusLine.{StatusLine}
use Rattle.status_lines.specs.declared.line.StatusLine.TheVariants as line

abbrev pub spool_word : SpoolState → List ℕ
spool_word spool.Runs = codes "runs"
spool_word spool.Stops = codes "stops"
spool_word spool.Closed = codes "closed"

abbrev pub queue_word : QueueState → List ℕ
queue_word queue.Runs = codes "runs"
queue_word queue.Held = codes "held"

abbrev pub phase_word : JobStage → List ℕ
phase_word far.Arriving = codes "receiving"
phase_word far.Waiting = codes "received"
phase_word far.Printing = codes "received"
phase_word far.Ended = codes "ended"

abbrev pub trouble_word : PrinterTrouble → List ℕ
trouble_word trouble.Stopped = codes "stopped"
trouble_word trouble.Unreached = codes "unreached"
trouble_word trouble.PutOff = codes "putoff"

-- uptime SECONDS
abbrev pub uptime_words : ℕ → List ℕ
uptime_words seconds = codes "uptime " ++ decimal seconds

-- spool STATE
abbrev pub spool_words : SpoolState → List ℕ
spool_words state = codes "spool " ++ spool_word state

-- pages free F chained C lent L out O
abbrev pub pages_words : Pages → List ℕ
pages_words pages =
    codes "pages free " ++ (decimal pages.free ++ (codes " chained " ++ (decimal pages.chained ++ (codes " lent " ++ (
    decimal pages.lent ++ (codes " out " ++ decimal pages.out))))))

-- entries COUNTED of MOST segment K
abbrev pub entries_words : (counted most segment : ℕ) → List ℕ
entries_words counted most segment =
    codes "entries " ++ (decimal counted ++ (codes " of " ++ (decimal most ++ (codes " segment " ++ decimal segment))))

-- lobby N
abbrev pub lobby_words : ℕ → List ℕ
lobby_words waiting = codes "lobby " ++ decimal waiting

-- kept waiting W failed F
abbrev pub kept_words : (waiting failed : ℕ) → List ℕ
kept_words waiting failed = codes "kept waiting " ++ (decimal waiting ++ (codes " failed " ++ decimal failed))

-- parked QUEUE N
abbrev pub parked_words : List ℕ → ℕ → List ℕ
parked_words name jobs = codes "parked " ++ (name ++ (codes " " ++ decimal jobs))

-- session PEER silent SECONDS
abbrev pub session_words : SocketAddr → ℕ → List ℕ
session_words peer silent = codes "session " ++ (socket_text peer ++ (codes " silent " ++ decimal silent))

-- queue NAME STATE
abbrev pub queue_words : List ℕ → QueueState → List ℕ
queue_words name state = codes "queue " ++ (name ++ (codes " " ++ queue_word state))

-- prints JOB place P
abbrev pub prints_words : (job place : ℕ) → List ℕ
prints_words job place = codes "prints " ++ (decimal job ++ (codes " place " ++ decimal place))

abbrev pub printer_words : PrinterStanding → List ℕ
printer_words printer.Idle = codes "idle"
printer_words printer.Held = codes "idle"
printer_words (printer.Printing job place) = prints_words job place
printer_words (printer.Unreached job place seconds) = prints_words job place
printer_words (printer.PutOff seconds) = codes "idle"
printer_words (printer.Stopped seconds) = codes "stopped"

-- printer K QUEUE STATE
abbrev pub printer_line : ℕ → List ℕ → PrinterStanding → List ℕ
printer_line number name standing =
    codes "printer " ++ (decimal number ++ (codes " " ++ (name ++ (codes " " ++ printer_words standing))))

-- printer K QUEUE stopped SECONDS CAUSE, or unreached, or putoff
abbrev pub trouble_line : ℕ → List ℕ → PrinterTrouble → ℕ → List ℕ → List ℕ
trouble_line number name what seconds cause =
    codes "printer " ++ (decimal number ++ (codes " " ++ (name ++ (codes " " ++ (trouble_word what ++ (codes " " ++ (decimal seconds ++ (codes " " ++ cause))))))))

-- SENDER USER HOST
abbrev pub owner_words : SeenJob → List ℕ
owner_words job =
    ipv4_text (to_be_bytes w32 job.sender) ++ (codes " " ++ (escaped job.user ++ (codes " " ++ escaped job.host)))

-- PHASE pages N octets M
abbrev pub progress_words : SeenJob → List ℕ
progress_words job =
    phase_word (stage_of job) ++ (codes " pages " ++ (decimal job.granted ++ (codes " octets " ++ decimal job.octets)))

-- holds H needs D
abbrev pub claim_words : JobPages → List ℕ
claim_words pages = codes "holds " ++ (decimal pages.holds ++ (codes " needs " ++ decimal pages.needs))

abbrev pub client_words : Option ℕ → List ℕ
client_words None = codes "number -"
client_words (Some number) = codes "number " ++ three_digits number

abbrev pub file_words : Option ℕ → List ℕ
file_words None = []
file_words (Some file) = codes " file " ++ decimal file

-- number NNN, and file F where it has one
abbrev pub called_words : JobNumbers → List ℕ
called_words numbers = client_words numbers.client ++ file_words numbers.file

-- holds H needs D number NNN file F STANDING
abbrev pub outlook_words : JobPages → JobNumbers → JobStanding → List ℕ
outlook_words pages numbers standing =
    claim_words pages ++ (codes " " ++ (called_words numbers ++ (codes " " ++ standing_words standing)))

-- job NUMBER QUEUE SENDER USER HOST PHASE pages N octets M holds H needs D number NNN file F STANDING
abbrev pub job_words : SeenJob → List ℕ → JobPages → JobNumbers → JobStanding → List ℕ
job_words job name pages numbers standing =
    codes "job " ++ (decimal job.number ++ (codes " " ++ (name ++ (codes " " ++ (owner_words job ++ (codes " " ++ (
    progress_words job ++ (codes " " ++ outlook_words pages numbers standing))))))))

abbrev pub line_words : StatusLine → List ℕ
line_words (line.Uptime seconds) = uptime_words seconds
line_words (line.Spool state) = spool_words state
line_words (line.Pages pages) = pages_words pages
line_words (line.Entries counted most segment) = entries_words counted most segment
line_words (line.Lobby waiting) = lobby_words waiting
line_words (line.Kept waiting failed) = kept_words waiting failed
line_words (line.Parked name jobs) = parked_words name.now jobs
line_words (line.Session peer silent) = session_words peer silent
line_words (line.Queue name state) = queue_words name.now state
line_words (line.Printer number name standing) = printer_line number name.now standing
line_words (line.Trouble number name what seconds cause) = trouble_line number name.now what seconds cause.now
line_words (line.Job job name pages numbers standing) = job_words job.now name.now pages numbers standing

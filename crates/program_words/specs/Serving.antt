-- The words of `serve`: as clap sees them, and what they say.
use Rattle.std.specs.Prelude.{◌≡◌, ◌≢◌, ◌≤◌, ◌∷◌, List, None, Option, Some, codes, length, option_map, pos, [], unwrap_or}
use Rattle.std.specs.Int.NonZero.{non_zero_u64_get}
use Rattle.std.specs.List.{AllPairs, AllZip}
use Rattle.clap.specs.Words.{App, Row, Rule, Text, all_of, first_of, new_app}
use Rattle.clap.specs.declared.builder.value_parser.ValueParser.TheVariants as parser
use Rattle.command_tables.specs.Rules.{count, flag, number_option, option, repeated, required_option, with_rules, word}
use Rattle.program_words.specs.Values.{IsAddress, IsFlag, IsGiven, IsGivenOr, IsLimit, IsNumber}
use Rattle.program_edge.specs.Networks.{NameNetworks}
use Rattle.program_edge.specs.declared.networks.Network.{Network}
use Rattle.printer_names.specs.Texts.{IsNamedText}
use Rattle.program_edge.specs.StatusPlaces.{IsHostName, IsStatusText}
use Rattle.printer_names.specs.declared.named.NamedPrinter.{NamedPrinter}
use Rattle.program_edge.specs.declared.settings.Limits.{Limits}
use Rattle.program_edge.specs.declared.settings.LogForm.{LogForm}
use Rattle.program_edge.specs.declared.settings.LogForm.TheVariants.{Journal, Plain, Time}
use Rattle.program_edge.specs.declared.settings.PrinterLimits.{PrinterLimits}
use Rattle.program_edge.specs.declared.settings.TheConstants.{MOST_CONTROL_PATH}
use Rattle.program_edge.specs.declared.status.StatusPlace.{StatusPlace}
use Rattle.program_words.specs.declared.serving.ListeningWords.{ListeningWords}
use Rattle.program_words.specs.declared.serving.PrintingWords.{PrintingWords}
use Rattle.program_words.specs.declared.serving.ServeRequest.{ServeRequest}
use Rattle.program_words.specs.declared.serving.Telling.{Telling}

-- the port to listen on, which has to be there
abbrev pub listening_port : Rule
listening_port = required_option (codes "port") (parser.Signed (pos 1) (pos 65535))

abbrev pub sessions : Rule
sessions = number_option (codes "sessions") (parser.Signed (pos 1) (pos 64))

-- what a printer prints to, of `serve` and `check`
abbrev pub printer : Rule
printer = repeated (codes "printer")

-- the words and options of `serve`
abbrev pub serve_words : List Rule
serve_words =
    word (codes "config") ∷ listening_port ∷ option (codes "bind") ∷ option (codes "out")
    ∷ sessions ∷ count (codes "connections") ∷ count (codes "rotate") ∷ count (codes "silence")
    ∷ count (codes "per-host") ∷ count (codes "slowest") ∷ flag (codes "keep-room")
    ∷ repeated (codes "allow") ∷ repeated (codes "proxied") ∷ option (codes "control") ∷ printer ∷ count (codes "patience")
    ∷ count (codes "printer-silence") ∷ count (codes "restart") ∷ option (codes "spool")
    ∷ flag (codes "parts") ∷ option (codes "account") ∷ option (codes "log") ∷ flag (codes "log-jobs") ∷ option (codes "status")
    ∷ option (codes "status-host") ∷ []

abbrev pub serve_app : App
serve_app = with_rules (new_app (codes "serve")) serve_words

-- a server's peers may do what these rows say
pub record AreLimits (rows : List Row) (limits : Limits) : Type 0 where
  pub silence : IsLimit rows (codes "silence") (option_map non_zero_u64_get limits.silence)
  pub per_host : IsLimit rows (codes "per-host") (option_map non_zero_u64_get limits.per_host)
  pub slowest : IsLimit rows (codes "slowest") (option_map non_zero_u64_get limits.slowest)
  pub no_job_seconds : limits.no_job_seconds ≡ 5
  pub leave_seconds : limits.leave_seconds ≡ 5
  pub room_ms : limits.room_ms ≡ 1000

-- these networks are those that an option names, each time that it is there, in order
abbrev pub AreNetworks : List Row → Text → List Network → Type 0
AreNetworks rows name networks = NameNetworks (unwrap_or (all_of name rows) []) networks

-- the path of the control socket: what the option says, if it is there, no longer than the path of a socket may be
abbrev pub IsControl : List Row → Option Text → Type 0
IsControl rows None = first_of (codes "control") rows ≡ None
IsControl rows (Some path) =
    (first_of (codes "control") rows ≡ Some path) × (length path ≤ MOST_CONTROL_PATH)

-- the form of the log's lines: the one that the option names, if it is there
abbrev pub IsLog : List Row → LogForm → Type 0
IsLog rows Plain = first_of (codes "log") rows ≡ None
IsLog rows Time = first_of (codes "log") rows ≡ Some (codes "time")
IsLog rows Journal = first_of (codes "log") rows ≡ Some (codes "journal")

-- where the status is shown: what the option says, if it is there
abbrev pub IsStatus : List Row → Option StatusPlace → Type 0
IsStatus rows None = first_of (codes "status") rows ≡ None
IsStatus rows (Some place) =
    (text : Text) × (first_of (codes "status") rows ≡ Some text) × IsStatusText text place

-- by which name the status may be asked for: what the option says, if it is there; then the status is shown somewhere
abbrev pub IsStatusHost : List Row → Option Text → Type 0
IsStatusHost rows None = first_of (codes "status-host") rows ≡ None
IsStatusHost rows (Some name) =
    (first_of (codes "status-host") rows ≡ Some name) × IsHostName name × (first_of (codes "status") rows ≢ None)

-- no two of these have one name
abbrev pub HaveDifferentNames : List NamedPrinter → Type 0
HaveDifferentNames printers =
    AllPairs (λ (one other : NamedPrinter). one.name.now ≢ other.name.now) printers

-- these say what single printers print to: what the option says, each time that it is there, in order; no name twice
pub record ArePrinters (rows : List Row) (printers : List NamedPrinter) : Type 0 where
  pub said : AllZip IsNamedText (unwrap_or (all_of (codes "printer") rows) []) printers
  pub once : HaveDifferentNames printers

-- a printer on the network may do what these rows say
pub record ArePrinterLimits (rows : List Row) (limits : PrinterLimits) : Type 0 where
  pub patience : IsLimit rows (codes "patience") (option_map non_zero_u64_get limits.patience_minutes)
  pub silence : IsLimit rows (codes "printer-silence") (option_map non_zero_u64_get limits.silence_seconds)

-- a server runs as these rows say: with 8 sessions at once, in the directory . where they don't say it
pub record IsServing (rows : List Row) (request : ServeRequest) : Type 0 where
  pub port : IsNumber rows (codes "port") request.settings.port
  pub bind : IsAddress (codes "bind") rows request.settings.bind
  pub out : request.settings.out.now ≡ unwrap_or (first_of (codes "out") rows) (codes ".")
  pub sessions : IsGivenOr 8 rows (codes "sessions") request.settings.sessions
  pub connections : IsGiven 64 rows (codes "connections") request.settings.connections
  pub rotate : IsLimit rows (codes "rotate") (option_map non_zero_u64_get request.settings.rotate)
  pub keep_room : IsFlag rows (codes "keep-room") request.settings.keep_room
  pub limits : AreLimits rows request.settings.limits
  pub allowed : AreNetworks rows (codes "allow") request.settings.allowed.items
  pub proxied : AreNetworks rows (codes "proxied") request.settings.proxied.items
  pub control : IsControl rows (option_map (λ path. path.now) request.settings.control)
  pub printers : ArePrinters rows request.printers.items
  -- which printers these are is known only beside a configuration
  pub placed : request.settings.printers.items ≡ []
  pub printer_limits : ArePrinterLimits rows request.settings.printer_limits
  pub restart : IsLimit rows (codes "restart") (option_map non_zero_u64_get request.settings.restart_seconds)
  pub spool : option_map (λ path. path.now) request.settings.spool ≡ first_of (codes "spool") rows
  pub parts : IsFlag rows (codes "parts") request.settings.parts
  pub account : option_map (λ path. path.now) request.settings.account ≡ first_of (codes "account") rows
  pub log : IsLog rows request.settings.log
  pub log_jobs : IsFlag rows (codes "log-jobs") request.settings.log_jobs
  pub status : IsStatus rows request.settings.status
  pub status_host : IsStatusHost rows (option_map (λ name. name.now) request.settings.status_host)

-- the part of it that says where a server listens, and how many connections it serves
pub record IsListening (rows : List Row) (listening : ListeningWords) : Type 0 where
  pub port : IsNumber rows (codes "port") listening.port
  pub bind : IsAddress (codes "bind") rows listening.bind
  pub sessions : IsGivenOr 8 rows (codes "sessions") listening.sessions
  pub connections : IsGiven 64 rows (codes "connections") listening.connections
  pub rotate : IsLimit rows (codes "rotate") (option_map non_zero_u64_get listening.rotate)
  pub limits : AreLimits rows listening.limits

-- the part of it that says what a server prints to
pub record IsPrinting (rows : List Row) (printing : PrintingWords) : Type 0 where
  pub printers : ArePrinters rows printing.printers.items
  pub limits : ArePrinterLimits rows printing.limits
  pub restart : IsLimit rows (codes "restart") (option_map non_zero_u64_get printing.restart_seconds)

-- the part of it that says what a server tells of itself
pub record IsTelling (rows : List Row) (telling : Telling) : Type 0 where
  pub log : IsLog rows telling.log
  pub status : IsStatus rows telling.status
  pub status_host : IsStatusHost rows (option_map (λ name. name.now) telling.status_host)

-- What the words ask for, by what clap reads of them.
use Rattle.std.specs.Prelude.{◌≡◌, ◌≤◌, ◌<◌, List, Option, Some, None, codes, length, map}
use Rattle.std.specs.List.{join_with_byte}
use Rattle.clap.specs.Words.{Row, Text, all_of, first_of}
use Rattle.control_lines.specs.Commands.{Means}
use Rattle.control_lines.specs.declared.command.ControlCommand.{ControlCommand}
use Rattle.program_words.specs.Auditing.{IsAuditRequest, IsUsageRequest}
use Rattle.program_words.specs.Checking.{IsChecking}
use Rattle.program_words.specs.Naming.{IsEnvelope}
use Rattle.program_words.specs.Questions.{IsQuestion, IsServer}
use Rattle.program_words.specs.Serving.{IsServing}
use Rattle.program_words.specs.Values.{IsFlag, IsNumber}
use Rattle.program_words.specs.declared.words.Ask.{Ask}
use Rattle.program_words.specs.declared.words.Ask.TheVariants.{Input, Check, Replay, Send, Question, Serve, Control, Audit, Usage}
use Rattle.program_words.specs.declared.words.Sending.{Sending}
use Rattle.program_words.specs.declared.control_request.ControlRequest.{ControlRequest}
use Rattle.program_edge.specs.declared.settings.TheConstants.{MOST_CONTROL_PATH}

-- a job has the words of these rows
pub record IsSending (rows : List Row) (sending : Sending) : Type 0 where
  pub server : IsServer rows sending.server
  pub queue : first_of (codes "queue") rows ≡ Some sending.queue.now
  pub number : IsNumber rows (codes "number") sending.number
  pub host : first_of (codes "host") rows ≡ Some sending.host.now
  pub user : first_of (codes "user") rows ≡ Some sending.user.now
  pub files : all_of (codes "file") rows ≡ Some (map (λ file. file.now) sending.files.items)
  pub progress : IsFlag rows (codes "progress") sending.progress

-- the path of a control socket, no longer than one may be
abbrev pub IsPath : List Row → Text → Type 0
IsPath rows path = (first_of (codes "path") rows ≡ Some path) × (length path ≤ MOST_CONTROL_PATH)

-- the line of these words, with a space between two, means this command
abbrev pub IsLine : List Row → ControlCommand → Type 0
IsLine rows command =
    (words : List Text) × (all_of (codes "word") rows ≡ Some words) × Means (join_with_byte 32 words) command

-- a command for a server has the words of these rows
pub record IsControlRequest (rows : List Row) (request : ControlRequest) : Type 0 where
  pub path : IsPath rows request.path.now
  pub line : IsLine rows request.command

-- what the command of this name with the words of these rows asks for
abbrev pub IsAskedBy : Text → List Row → Ask → Type 0
IsAskedBy name rows Input = ⊥
IsAskedBy name rows (Check checking) = (name ≡ codes "check") × IsChecking rows checking
IsAskedBy name rows (Replay config script) =
    (name ≡ codes "replay") × (first_of (codes "config") rows ≡ Some config.now)
    × (first_of (codes "script") rows ≡ Some script.now)
IsAskedBy name rows (Send sending envelope) =
    (name ≡ codes "send") × IsSending rows sending × IsEnvelope sending envelope
IsAskedBy name rows (Question question) = IsQuestion name rows question
IsAskedBy name rows (Serve config request) =
    (name ≡ codes "serve") × (first_of (codes "config") rows ≡ Some config.now)
    × IsServing rows request
IsAskedBy name rows (Control request) = (name ≡ codes "control") × IsControlRequest rows request
IsAskedBy name rows (Audit request) = (name ≡ codes "audit") × IsAuditRequest rows request
IsAskedBy name rows (Usage request) = (name ≡ codes "usage") × IsUsageRequest rows request

-- a check is asked for, and something is said of printers
abbrev pub ChecksPrinters : Ask → Type 0
ChecksPrinters (Check checking) = 0 < length checking.printers.items
ChecksPrinters asked = ⊥

-- what words ask for: what their command asks for, and without one what the input asks
abbrev pub IsAsked : Option (Text × List Row) → Ask → Type 0
IsAsked None asked = asked ≡ Input
IsAsked (Some met) asked = IsAskedBy met.0 met.1 asked

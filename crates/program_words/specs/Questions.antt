-- Questions for a server, and requests to start printers: as clap sees their words, and what they say.
use Rattle.std.specs.Prelude.{◌≡◌, ◌∷◌, List, [], Some, codes, pos, unwrap_or}
use Rattle.clap.specs.Words.{App, Row, Rule, Text, all_of, first_of, new_app}
use Rattle.clap.specs.declared.builder.value_parser.ValueParser.TheVariants as parser
use Rattle.lpd_commands.specs.declared.command.Command.{Command}
use Rattle.lpd_commands.specs.declared.command.Command.TheVariants.{PrintWaiting, Receive, State, Remove}
use Rattle.command_tables.specs.Rules.{flag, number, option, optional_words, with_rules, word}
use Rattle.program_words.specs.Values.{IsAddress, IsFlag, IsNumber}
use Rattle.program_words.specs.declared.queue_question.QueueQuestion.{QueueQuestion}
use Rattle.program_words.specs.declared.queue_question.Server.{Server}

-- the port of a server
abbrev pub server_port : Rule
server_port = number (codes "port") (parser.Signed (pos 1) (pos 65535))

-- its address
abbrev pub server_option : Rule
server_option = option (codes "server")

-- the words and options of `state`
abbrev pub state_words : List Rule
state_words =
    server_port ∷ word (codes "queue") ∷ optional_words (codes "list") 510 ∷ flag (codes "long") ∷ server_option ∷ []

abbrev pub state_app : App
state_app = with_rules (new_app (codes "state")) state_words

-- the words and options of `remove`
abbrev pub remove_words : List Rule
remove_words =
    server_port ∷ word (codes "queue") ∷ word (codes "agent") ∷ optional_words (codes "list") 510 ∷ server_option ∷ []

abbrev pub remove_app : App
remove_app = with_rules (new_app (codes "remove")) remove_words

-- the words and options of `start`
abbrev pub start_words : List Rule
start_words = server_port ∷ word (codes "queue") ∷ server_option ∷ []

abbrev pub start_app : App
start_app = with_rules (new_app (codes "start")) start_words

-- these rows name a server
pub record IsServer (rows : List Row) (server : Server) : Type 0 where
  pub address : IsAddress (codes "server") rows server.address
  pub port : IsNumber rows (codes "port") server.port

-- the words of a list, in order, none where there is no list
abbrev pub IsList : List Row → List Text → Type 0
IsList rows list = list ≡ unwrap_or (all_of (codes "list") rows) []

-- the command of this name with the words of these rows asks a server for this (RFC 1179, sections 5.1 and 5.3 to 5.5)
abbrev pub IsQuery : Text → List Row → Command → Type 0
IsQuery name rows (PrintWaiting queue) =
    (name ≡ codes "start") × (first_of (codes "queue") rows ≡ Some queue)
IsQuery name rows (Receive queue) = ⊥
IsQuery name rows (State queue list long) =
    (name ≡ codes "state") × (first_of (codes "queue") rows ≡ Some queue) × IsList rows list
    × IsFlag rows (codes "long") long
IsQuery name rows (Remove queue agent list) =
    (name ≡ codes "remove") × (first_of (codes "queue") rows ≡ Some queue)
    × (first_of (codes "agent") rows ≡ Some agent) × IsList rows list

-- the same, and which server
pub record IsQuestion (name : Text) (rows : List Row) (question : QueueQuestion) : Type 0 where
  pub server : IsServer rows question.server
  pub query : IsQuery name rows question.command

-- The words that the program takes, as clap sees them.
use Rattle.std.specs.Prelude.{◌∷◌, List, codes, pos, true, []}
use Rattle.clap.specs.Words.{App, Rule, new_app}
use Rattle.clap.specs.declared.builder.value_parser.ValueParser.TheVariants as parser
use Rattle.program_words.specs.Questions.{remove_app, server_option, server_port, start_app, state_app}
use Rattle.command_tables.specs.Rules.{flag, number, with_commands, with_rules, word, words}
use Rattle.program_words.specs.Auditing.{audit_app, usage_app}
use Rattle.program_words.specs.Checking.{check_app}
use Rattle.program_words.specs.Serving.{serve_app}

-- the words of `replay`
abbrev pub replay_words : List Rule
replay_words = word (codes "config") ∷ word (codes "script") ∷ []

abbrev pub replay_app : App
replay_app = with_rules (new_app (codes "replay")) replay_words

-- the words and options of `send`
abbrev pub send_words : List Rule
send_words =
    server_port ∷ word (codes "queue") ∷ number (codes "number") (parser.Signed (pos 0) (pos 999))
    ∷ word (codes "host") ∷ word (codes "user") ∷ words (codes "file") 52 ∷ server_option ∷ flag (codes "progress") ∷ []

abbrev pub send_app : App
send_app = with_rules (new_app (codes "send")) send_words

-- the words of `control`
abbrev pub control_words : List Rule
control_words = word (codes "path") ∷ words (codes "word") 52 ∷ []

abbrev pub control_app : App
control_app = with_rules (new_app (codes "control")) control_words

abbrev pub program_app : App
program_app = record {
  top = record (new_app (codes "lpd_server")).top {
    has_version = true;
    disable_help_subcommand = true;
  };
  subs = [];
}

abbrev pub commands : List App
commands =
    check_app ∷ replay_app ∷ send_app ∷ state_app ∷ remove_app ∷ start_app ∷ serve_app ∷ control_app
    ∷ audit_app ∷ usage_app ∷ []

-- the command line: nothing, or one of these commands with its words; help and the version
abbrev pub command_line : App
command_line = with_commands program_app commands

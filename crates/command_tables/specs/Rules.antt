-- A word of a command line, as clap sees it.
use Rattle.std.specs.Prelude.{◌≡◌, ◌∷◌, ℕ, List, Some, false, map, max, pos, true, []}
use Rattle.clap.specs.Words.{App, Rule, Text, app_of, new_app, new_rule, rule_of, with_rule, with_subcommand}
use Rattle.clap.specs.declared.builder.arg.Arg.{Arg}
use Rattle.clap.specs.declared.builder.command.Command.{Command}
use Rattle.clap.specs.declared.builder.command.Command.TheViews.{out-Command as fields_of}
use Rattle.clap.specs.declared.builder.action.ArgAction.TheVariants.{Append, SetTrue}
use Rattle.clap.specs.declared.builder.value_parser.ValueParser.{ValueParser}
use Rattle.clap.specs.declared.builder.value_parser.ValueParser.TheVariants as parser
use Rattle.command_tables.specs.declared.tables.CommandTable.{CommandTable}
use Rattle.command_tables.specs.declared.tables.Shape.{Shape}
use Rattle.command_tables.specs.declared.tables.Shape.TheVariants as shape
use Rattle.command_tables.specs.declared.tables.Word.{Word}

-- a word by this rule, which isn't one of all commands
abbrev pub IsWord : Arg → Rule → Type 0
IsWord arg rule = (rule_of arg ≡ rule) × (arg.global ≡ false)

-- a command that is this, without words of all commands
abbrev pub IsCommand : Command → App → Type 0
IsCommand command app = (app_of command ≡ app) × ((fields_of command).has_globals ≡ false)

-- a word that has to be there
abbrev pub word : Text → Rule
word id = record (new_rule id) { value_names = 1; required = true }

-- a word that is a number
abbrev pub number : Text → ValueParser → Rule
number id range = record (word id) { parser = Some range }

-- one word or more, up to so many; one where that is 0
abbrev pub words : Text → ℕ → Rule
words id most = record (word id) { range = Some (record { start_inclusive = 1; end_inclusive = max most 1 }) }

-- the same, which don't have to be there
abbrev pub optional_words : Text → ℕ → Rule
optional_words id most = record (new_rule id) {
  value_names = 1;
  range = Some (record { start_inclusive = 1; end_inclusive = max most 1 });
}

-- an option with one value, --id
abbrev pub option : Text → Rule
option id = record (new_rule id) { long = Some id; value_names = 1 }

-- an option with one value, --id, that may stand several times
abbrev pub repeated : Text → Rule
repeated id = record (option id) { action = Some Append }

-- an option whose value is a number
abbrev pub number_option : Text → ValueParser → Rule
number_option id range = record (option id) { parser = Some range }

-- an option whose value is a number, and that has to be there
abbrev pub required_option : Text → ValueParser → Rule
required_option id range = record (number_option id range) { required = true }

-- an option whose value counts something
abbrev pub count : Text → Rule
count id = number_option id (parser.Signed (pos 1) (pos 4294967295))

-- an option whose value counts something, that may stand several times
abbrev pub counts : Text → Rule
counts id = record (count id) { action = Some Append }

-- an option without a value, --id
abbrev pub flag : Text → Rule
flag id = record (new_rule id) { long = Some id; action = Some SetTrue }

-- a command with words more, in order
abbrev pub with_rules : App → List Rule → App
with_rules app [] = app
with_rules app (rule ∷ rules) = with_rules (with_rule app rule) rules

-- a command line with commands more, in order
abbrev pub with_commands : App → List App → App
with_commands app [] = app
with_commands app (command ∷ commands) = with_commands (with_subcommand app command.top) commands

-- a word that stands so
abbrev pub shape_rule : Shape → Text → Rule
shape_rule (shape.Word name) id = word id
shape_rule (shape.Words name most) id = words id most
shape_rule (shape.OptionalWords name most) id = optional_words id most
shape_rule (shape.Number name least most) id = number id (parser.Signed least most)
shape_rule shape.Flag id = flag id
shape_rule (shape.Option name) id = option id
shape_rule (shape.Repeated name) id = repeated id
shape_rule (shape.NumberOption name least most) id = number_option id (parser.Signed least most)
shape_rule (shape.RequiredOption name least most) id = required_option id (parser.Signed least most)
shape_rule (shape.Count name) id = count id
shape_rule (shape.Counts name) id = counts id

abbrev pub word_rule : Word → Rule
word_rule word = shape_rule word.shape word.id.now

-- the command of a table, with its words in order
abbrev pub table_app : CommandTable → App
table_app table = with_rules (new_app table.name.now) (map word_rule table.words.now)

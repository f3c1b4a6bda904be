-- Commands with words and with commands more, one after another.
use Rattle.std.proofs.Common.{◌≡◌, ◌∙◌, ◌∷◌, ◌++◌, [], List, false, refl, sym, ap}
use Rattle.clap.specs.Words.{AddsArg, AddsSubcommand, App, Rule, app_of, rule_of, with_rule, with_subcommand}
use Rattle.clap.specs.declared.builder.arg.Arg.{Arg}
use Rattle.clap.specs.declared.builder.command.Command.{Command}
use Rattle.clap.specs.declared.builder.command.Command.TheViews.{out-Command as fields_of}
use Rattle.command_tables.specs.Rules.{IsCommand, IsWord, with_commands, with_rules}

with_rules-append : (app : App) (rules : List Rule) (rule : Rule) → with_rules app (rules ++ rule ∷ []) ≡ with_rule (with_rules app rules) rule
with_rules-append app [] rule = refl
with_rules-append app (first ∷ rules) rule = with_rules-append (with_rule app first) rules rule

with_commands-append : (app : App) (commands : List App) (command : App) → with_commands app (commands ++ command ∷ []) ≡ with_subcommand (with_commands app commands) command.top
with_commands-append app [] command = refl
with_commands-append app (first ∷ commands) command = with_commands-append (with_subcommand app first.top) commands command

-- one more word was added
pub one_more_word : (old new : Command) (arg : Arg) (app : App) (rules more : List Rule) (rule : Rule) → IsCommand old (with_rules app rules) → IsWord arg rule → AddsArg old arg new
    → more ≡ rules ++ rule ∷ [] → IsCommand new (with_rules app more)
one_more_word old new arg app rules more rule was is added same =
    let shape = added.shape is.1 in
    let globals : (fields_of new).has_globals ≡ false = rw added.globals (rw was.1 is.1) in
    (shape ∙ ap (λ it. with_rule it (rule_of arg)) was.0 ∙ ap (λ it. with_rule (with_rules app rules) it) is.0 ∙ sym (with_rules-append app rules rule) ∙ ap (with_rules app) (sym same), globals)

-- one more command was added
pub one_more_command : (old new sub : Command) (app command : App) (commands more : List App) → app_of old ≡ with_commands app commands → IsCommand sub command → AddsSubcommand old sub new
    → more ≡ commands ++ command ∷ [] → app_of new ≡ with_commands app more
one_more_command old new sub app command commands more was is added same =
    added.shape is.1 ∙ ap (λ it. with_subcommand it (app_of sub).top) was ∙ ap (λ it. with_subcommand (with_commands app commands) it.top) is.0 ∙ sym (with_commands-append app commands command)
    ∙ ap (with_commands app) (sym same)

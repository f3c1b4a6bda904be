use Rattle.std.proofs.Common.{map, take}
use Rattle.std.proofs.lemmas.List.{map_more}
use Rattle.clap.specs.Words.{app_of}
use Rattle.command_tables.specs.Rules.{table_app}
use Rattle.command_tables.proofs.CommandLemmas.{one_more_command}
use Rattle.program_words.proofs.command.with_commands.Goals as goal

pub loop-table-preserved : goal.loop-table-preserved
loop-table-preserved c =
    let tables = c.args.tables.now in
    let i = c.loop-table.table-index in
    one_more_command c.loop-table.program c.in_ok-program.program c.in_ok-command_of.field-0 (app_of c.args.program) _ (map table_app (take i tables)) _
    c.loop-table.invariant c.in_ok-command_of.ensures c.in_ok-program.ensures (map_more table_app tables i _ c.loop-table-test.true)

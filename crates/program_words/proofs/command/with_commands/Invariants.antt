use Rattle.std.proofs.Common.{◌≡◌, map, take}
use Rattle.clap.specs.Words.{app_of}
use Rattle.command_tables.specs.Rules.{table_app, with_commands}
use Rattle.program_words.proofs.command.with_commands.Given as goal

abbrev pub invariant-loop-table : goal.invariant-loop-table
invariant-loop-table l = app_of l.program ≡ with_commands (app_of l.fn.program) (map table_app (take l.table-index l.tables))

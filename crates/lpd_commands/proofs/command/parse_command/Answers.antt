use Rattle.std.proofs.Common.{arith}
use Rattle.lpd_commands.proofs.CommandLaws.{short_layout}
use Rattle.lpd_commands.proofs.command.parse_command.Goals as goal

pub returns-clause-layout : goal.returns-clause-layout
returns-clause-layout c = short_layout c.args.line.now _ (omega arith) c.parse_short.ensures

use Rattle.std.proofs.Common.{arith}
use Rattle.lpd_commands.proofs.SubLaws.{short_layout}
use Rattle.lpd_commands.proofs.sub.parse_sub.Goals as goal

pub returns-clause-layout : goal.returns-clause-layout
returns-clause-layout c = short_layout c.args.line.now _ (omega arith) c.parse_short.ensures

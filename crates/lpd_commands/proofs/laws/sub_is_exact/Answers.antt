use Rattle.lpd_commands.proofs.SubLaws.{sub_is_exact}
use Rattle.lpd_commands.proofs.laws.sub_is_exact.Goals as goal

pub returns : goal.returns
returns c = sub_is_exact c.args._line.now

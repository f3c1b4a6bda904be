use Rattle.lpd_commands.proofs.SubLaws.{sub_is_decided}
use Rattle.lpd_commands.proofs.laws.sub_is_decided.Goals as goal

pub returns : goal.returns
returns c = sub_is_decided c.args._line.now

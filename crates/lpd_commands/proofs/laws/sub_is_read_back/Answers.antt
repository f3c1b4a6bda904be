use Rattle.lpd_commands.proofs.WriteLemmas.{sub_is_read_back}
use Rattle.lpd_commands.proofs.laws.sub_is_read_back.Goals as goal

pub returns : goal.returns
returns c = sub_is_read_back c.args._sub.now

use Rattle.control_file.proofs.WriteLemmas.{control_is_read_back}
use Rattle.control_file.proofs.laws.control_is_read_back.Goals as goal

pub returns : goal.returns
returns c = control_is_read_back c.args._control.now c.args._name.now

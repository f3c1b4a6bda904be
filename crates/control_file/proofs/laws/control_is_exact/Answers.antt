use Rattle.control_file.proofs.ControlLaws.{control_is_exact}
use Rattle.control_file.proofs.laws.control_is_exact.Goals as goal

pub returns : goal.returns
returns c = control_is_exact c.args._name.now c.args._text.now

use Rattle.control_file.proofs.ControlLaws.{control_is_decided}
use Rattle.control_file.proofs.laws.control_is_decided.Goals as goal

pub returns : goal.returns
returns c = control_is_decided c.args._name.now c.args._text.now

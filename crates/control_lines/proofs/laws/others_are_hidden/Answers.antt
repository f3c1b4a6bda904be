use Rattle.control_lines.proofs.EscapeLemmas.{hides}
use Rattle.control_lines.proofs.laws.others_are_hidden.Goals as goal

pub returns : goal.returns
returns c = hides c.args._octet

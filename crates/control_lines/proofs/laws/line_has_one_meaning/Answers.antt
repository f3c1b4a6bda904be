use Rattle.control_lines.proofs.LineLemmas.{one_meaning}
use Rattle.control_lines.proofs.laws.line_has_one_meaning.Goals as goal

pub returns : goal.returns
returns c = one_meaning c.args._line.now

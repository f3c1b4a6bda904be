use Rattle.control_lines.proofs.LineLemmas.{most_is_reached}
use Rattle.control_lines.proofs.laws.most_is_reached.Goals as goal

pub returns : goal.returns
returns c = most_is_reached

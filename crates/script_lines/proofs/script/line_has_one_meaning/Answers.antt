use Rattle.script_lines.proofs.LineLemmas.{one_meaning}
use Rattle.script_lines.proofs.script.line_has_one_meaning.Goals as goal

pub returns : goal.returns
returns c = one_meaning c.args._line.now

use Rattle.control_lines.proofs.LineLemmas.{is_short}
use Rattle.control_lines.proofs.laws.line_is_short.Goals as goal

pub returns : goal.returns
returns c = is_short c.args._command.now

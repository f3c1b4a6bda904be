use Rattle.std.proofs.Common.{append_assoc}
use Rattle.script_lines.proofs.texts.session_told.Goals as goal

pub returns : goal.returns
returns c = simp append_assoc c.format.ensures.ok

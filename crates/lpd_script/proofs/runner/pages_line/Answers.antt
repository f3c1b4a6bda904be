use Rattle.std.proofs.Common.{append_assoc}
use Rattle.lpd_script.proofs.runner.pages_line.Goals as goal

pub returns : goal.returns
returns c = simp append_assoc c.format.ensures.ok

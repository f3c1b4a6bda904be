use Rattle.receiver.proofs.BlockLaws.{first_line_read}
use Rattle.receiver.proofs.theorems.first_line.Goals as goal

pub returns : goal.returns
returns c = first_line_read

use Rattle.receiver.proofs.BlockLaws.{later_again_read}
use Rattle.receiver.proofs.theorems.later_again.Goals as goal

pub returns : goal.returns
returns c = later_again_read

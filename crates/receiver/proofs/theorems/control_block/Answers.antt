use Rattle.receiver.proofs.BlockLaws.{control_block_read}
use Rattle.receiver.proofs.theorems.control_block.Goals as goal

pub returns : goal.returns
returns c = control_block_read

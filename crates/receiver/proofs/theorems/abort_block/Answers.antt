use Rattle.receiver.proofs.BlockLaws.{abort_block_read}
use Rattle.receiver.proofs.theorems.abort_block.Goals as goal

pub returns : goal.returns
returns c = abort_block_read

use Rattle.receiver.proofs.BlockLaws.{data_block_read}
use Rattle.receiver.proofs.theorems.data_block.Goals as goal

pub returns : goal.returns
returns c = data_block_read

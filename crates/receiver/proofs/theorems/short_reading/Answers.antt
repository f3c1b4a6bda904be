use Rattle.receiver.proofs.Short.{short_reading as short}
use Rattle.receiver.proofs.theorems.short_reading.Goals as goal

pub returns : goal.returns
returns c = short

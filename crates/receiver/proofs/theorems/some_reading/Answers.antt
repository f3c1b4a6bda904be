use Rattle.receiver.proofs.Exists.{some_reading as some}
use Rattle.receiver.proofs.theorems.some_reading.Goals as goal

pub returns : goal.returns
returns c = some

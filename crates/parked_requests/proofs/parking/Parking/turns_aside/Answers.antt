use Rattle.std.proofs.Common.{refl}
use Rattle.parked_requests.proofs.parking.Parking.turns_aside.Goals as goal

pub returns-clause-aborted : goal.returns-clause-aborted
returns-clause-aborted g c = λ turned sender. (_, c.abort.ensures.carries sender refl)

use Rattle.spool_laws.proofs.Reserve.{reserve_is_enough}
use Rattle.spool_laws.proofs.entries.reserve_is_enough.Goals as goal

pub returns : goal.returns
returns g c = reserve_is_enough

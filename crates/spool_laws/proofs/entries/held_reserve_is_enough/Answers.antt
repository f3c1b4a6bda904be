use Rattle.spool_laws.proofs.Freeing.{held_reserve_is_enough}
use Rattle.spool_laws.proofs.entries.held_reserve_is_enough.Goals as goal

pub returns : goal.returns
returns g c = held_reserve_is_enough

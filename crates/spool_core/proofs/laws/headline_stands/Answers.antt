use Rattle.spool_core.proofs.Standing.{stands}
use Rattle.spool_core.proofs.laws.headline_stands.Goals as goal

pub returns : goal.returns
returns g = stands

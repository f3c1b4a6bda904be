use Rattle.spool_laws.proofs.Staying.{stays}
use Rattle.spool_laws.proofs.safe.stays_safe.Goals as goal

pub returns : goal.returns
returns g c = stays

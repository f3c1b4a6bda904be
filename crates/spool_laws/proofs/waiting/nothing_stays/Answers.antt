use Rattle.spool_laws.proofs.Served.{nothing_stays}
use Rattle.spool_laws.proofs.waiting.nothing_stays.Goals as goal

pub returns : goal.returns
returns g c = nothing_stays

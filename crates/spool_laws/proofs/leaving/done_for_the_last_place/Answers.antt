use Rattle.spool_laws.proofs.Says.{each_says}
use Rattle.spool_laws.proofs.leaving.done_for_the_last_place.Goals as goal

pub returns : goal.returns
returns g c = each_says

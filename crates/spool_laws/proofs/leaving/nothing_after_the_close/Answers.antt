use Rattle.spool_laws.proofs.Leaves.{each_open}
use Rattle.spool_laws.proofs.leaving.nothing_after_the_close.Goals as goal

pub returns : goal.returns
returns g c = each_open

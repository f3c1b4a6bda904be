use Rattle.spool_laws.proofs.Leaves.{each_going}
use Rattle.spool_laws.proofs.leaving.nothing_after_the_end.Goals as goal

pub returns : goal.returns
returns g c = each_going

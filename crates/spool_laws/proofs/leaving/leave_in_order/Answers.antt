use Rattle.spool_laws.proofs.Behind.{each_in_order}
use Rattle.spool_laws.proofs.Places.{placed}
use Rattle.spool_laws.proofs.Whole.{all_placed}
use Rattle.spool_laws.proofs.leaving.leave_in_order.Goals as goal

pub returns-clause-places : goal.returns-clause-places
returns-clause-places g c = placed

pub returns-clause-done : goal.returns-clause-done
returns-clause-done g c = all_placed

pub returns-clause-by_acceptance : goal.returns-clause-by_acceptance
returns-clause-by_acceptance g c = each_in_order

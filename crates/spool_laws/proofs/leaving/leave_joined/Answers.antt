use Rattle.spool_laws.proofs.Joined.{each_accepted, joined}
use Rattle.spool_laws.proofs.leaving.leave_joined.Goals as goal

pub returns-clause-joins : goal.returns-clause-joins
returns-clause-joins g c = joined

pub returns-clause-accepted : goal.returns-clause-accepted
returns-clause-accepted g c = each_accepted

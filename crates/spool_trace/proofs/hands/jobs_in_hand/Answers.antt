use Rattle.spool_trace.proofs.Whole.{accepted, differ}
use Rattle.spool_trace.proofs.hands.jobs_in_hand.Goals as goal

pub returns-clause-accepted : goal.returns-clause-accepted
returns-clause-accepted c = accepted

pub returns-clause-differ : goal.returns-clause-differ
returns-clause-differ c = differ

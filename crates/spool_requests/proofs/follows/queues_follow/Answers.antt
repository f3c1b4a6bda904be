use Rattle.spool_requests.proofs.Bridge.{queue_follows, start_follows, state_follows, removal_follows}
use Rattle.spool_requests.proofs.follows.queues_follow.Goals as goal

pub returns-clause-queue : goal.returns-clause-queue
returns-clause-queue c = queue_follows

pub returns-clause-start : goal.returns-clause-start
returns-clause-start c = start_follows

pub returns-clause-state : goal.returns-clause-state
returns-clause-state c = state_follows

pub returns-clause-removal : goal.returns-clause-removal
returns-clause-removal c = removal_follows

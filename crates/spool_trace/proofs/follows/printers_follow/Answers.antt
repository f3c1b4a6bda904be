use Rattle.spool_trace.proofs.Steps.{fail_follows, next_follows, print_follows}
use Rattle.spool_trace.proofs.follows.printers_follow.Goals as goal

pub returns-clause-next : goal.returns-clause-next
returns-clause-next c = next_follows

pub returns-clause-printed : goal.returns-clause-printed
returns-clause-printed c = print_follows

pub returns-clause-failed : goal.returns-clause-failed
returns-clause-failed c = fail_follows

use Rattle.spool_trace.proofs.Steps as S
use Rattle.spool_trace.proofs.follows.break_follows.Goals as goal

pub returns : goal.returns
returns c = S.break_follows

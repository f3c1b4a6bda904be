use Rattle.spool_trace.proofs.Steps as S
use Rattle.spool_trace.proofs.follows.close_follows.Goals as goal

pub returns : goal.returns
returns c = S.close_follows

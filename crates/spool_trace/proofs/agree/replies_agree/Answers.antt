use Rattle.spool_trace.proofs.OneReply as O
use Rattle.spool_trace.proofs.agree.replies_agree.Goals as goal

pub returns : goal.returns
returns c = O.replies_agree

use Rattle.spool_requests.proofs.Bridge as F
use Rattle.spool_requests.proofs.follows.session_end_follows.Goals as goal

pub returns : goal.returns
returns c = F.session_end_follows

use Rattle.spool_trace.proofs.Legal as L
use Rattle.spool_trace.proofs.headline.pages_add_up.Goals as goal

pub returns : goal.returns
returns c = L.add_up

use Rattle.spool_trace.proofs.Whole.{holds}
use Rattle.spool_trace.proofs.headline.headline_holds.Goals as goal

pub returns : goal.returns
returns c = holds

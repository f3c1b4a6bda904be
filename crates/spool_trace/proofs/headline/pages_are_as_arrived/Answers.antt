use Rattle.spool_trace.proofs.Whole.{arrived}
use Rattle.spool_trace.proofs.headline.pages_are_as_arrived.Goals as goal

pub returns : goal.returns
returns c = arrived

use Rattle.spool_trace.proofs.Outs.{outs}
use Rattle.spool_trace.proofs.hands.pages_at_printers.Goals as goal

pub returns : goal.returns
returns c = outs

use Rattle.spool_trace.proofs.Whole.{other_acts}
use Rattle.spool_trace.proofs.hands.other_acts_stay.Goals as goal

pub returns : goal.returns
returns g c = other_acts

use Rattle.spool_trace.proofs.Whole.{in_hand, lent}
use Rattle.spool_trace.proofs.hands.pages_in_hand.Goals as goal

pub returns-clause-acts : goal.returns-clause-acts
returns-clause-acts c = lent

pub returns-clause-held : goal.returns-clause-held
returns-clause-held c = in_hand

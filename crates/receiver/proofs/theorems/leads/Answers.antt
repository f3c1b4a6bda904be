use Rattle.receiver.proofs.LeadsLaws.{at_start, on_arrival, on_advance, on_reply, to_reading}
use Rattle.receiver.proofs.theorems.leads.Goals as goal

pub returns : goal.returns
returns c = record { at_start = at_start; arrival = on_arrival; advance = on_advance; reply = on_reply; reading = to_reading }

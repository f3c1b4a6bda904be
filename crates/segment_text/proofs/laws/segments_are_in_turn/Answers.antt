use Rattle.segment_text.proofs.InTurn.{in_turn}
use Rattle.segment_text.proofs.laws.segments_are_in_turn.Goals as goal

pub returns : goal.returns
returns c = in_turn

use Rattle.segment_text.proofs.InTurn.{item_unfed}
use Rattle.segment_text.proofs.laws.lines_have_no_feed.Goals as goal

pub returns : goal.returns
returns c = item_unfed

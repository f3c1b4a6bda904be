use Rattle.std.proofs.Common.{length}
use Rattle.segment_text.proofs.follow.+same_printers.Given as goal

abbrev pub decreases-same_printers : goal.decreases-same_printers
decreases-same_printers l = length l.some.now

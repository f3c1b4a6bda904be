use Rattle.std.proofs.Common.{length}
use Rattle.history_reader.proofs.hands.+hand_after.Given as goal

abbrev pub decreases-hand_after : goal.decreases-hand_after
decreases-hand_after l = length l.pages.now

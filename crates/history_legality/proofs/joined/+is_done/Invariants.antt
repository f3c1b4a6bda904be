use Rattle.std.proofs.Common.{length}
use Rattle.history_legality.proofs.joined.+is_done.Given as goal

abbrev pub decreases-is_done : goal.decreases-is_done
decreases-is_done l = length l.entries.now

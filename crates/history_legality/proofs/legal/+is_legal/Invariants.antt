use Rattle.std.proofs.Common.{length}
use Rattle.history_legality.proofs.legal.+is_legal.Given as goal

abbrev pub decreases-is_legal : goal.decreases-is_legal
decreases-is_legal l = length l.entries.now

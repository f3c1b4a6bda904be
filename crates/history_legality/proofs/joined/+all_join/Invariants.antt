use Rattle.std.proofs.Common.{length}
use Rattle.history_legality.proofs.joined.+all_join.Given as goal

abbrev pub decreases-all_join : goal.decreases-all_join
decreases-all_join l = length l.some.now

use Rattle.std.proofs.Common.{length}
use Rattle.history_legality.proofs.queues.+all_may_be_removed.Given as goal

abbrev pub decreases-all_may_be_removed : goal.decreases-all_may_be_removed
decreases-all_may_be_removed l = length l.numbers.now

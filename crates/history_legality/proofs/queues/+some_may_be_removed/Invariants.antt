use Rattle.std.proofs.Common.{length}
use Rattle.history_legality.proofs.queues.+some_may_be_removed.Given as goal

abbrev pub decreases-some_may_be_removed : goal.decreases-some_may_be_removed
decreases-some_may_be_removed l = length l.jobs.now

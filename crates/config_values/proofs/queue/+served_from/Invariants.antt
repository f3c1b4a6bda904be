use Rattle.std.proofs.Common.{length}
use Rattle.config_values.proofs.queue.+served_from.Given as goal

abbrev pub decreases-served_from : goal.decreases-served_from
decreases-served_from l = length l.queues.now

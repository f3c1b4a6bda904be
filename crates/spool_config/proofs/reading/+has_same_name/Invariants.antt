use Rattle.std.proofs.Common.{length}
use Rattle.spool_config.proofs.reading.+has_same_name.Given as goal

abbrev pub decreases-has_same_name : goal.decreases-has_same_name
decreases-has_same_name l = length l.queues.now

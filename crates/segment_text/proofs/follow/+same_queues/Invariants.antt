use Rattle.std.proofs.Common.{length}
use Rattle.segment_text.proofs.follow.+same_queues.Given as goal

abbrev pub decreases-same_queues : goal.decreases-same_queues
decreases-same_queues l = length l.some.now

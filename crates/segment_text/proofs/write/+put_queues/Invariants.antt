use Rattle.std.proofs.Common.{length}
use Rattle.segment_text.proofs.write.+put_queues.Given as goal

abbrev pub decreases-put_queues : goal.decreases-put_queues
decreases-put_queues l = length l.queues.now

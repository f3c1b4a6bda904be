use Rattle.std.proofs.Common.{length}
use Rattle.segment_text.proofs.config.+is_own.Given as goal

abbrev pub decreases-is_own : goal.decreases-is_own
decreases-is_own l = length l.queues.now

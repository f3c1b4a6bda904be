use Rattle.std.proofs.Common.{length}
use Rattle.segment_text.proofs.write.+put_stopped.Given as goal

abbrev pub decreases-put_stopped : goal.decreases-put_stopped
decreases-put_stopped l = length l.stopped.now

use Rattle.std.proofs.Common.{length}
use Rattle.history_reader.proofs.hands.+first_unended.Given as goal

abbrev pub decreases-first_unended : goal.decreases-first_unended
decreases-first_unended l = length l.jobs.now

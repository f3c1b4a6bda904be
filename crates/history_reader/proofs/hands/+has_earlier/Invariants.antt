use Rattle.std.proofs.Common.{length}
use Rattle.history_reader.proofs.hands.+has_earlier.Given as goal

abbrev pub decreases-has_earlier : goal.decreases-has_earlier
decreases-has_earlier l = length l.jobs.now

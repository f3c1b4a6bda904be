use Rattle.std.proofs.Common.{length}
use Rattle.history_reader.proofs.hands.+first_ready.Given as goal

abbrev pub decreases-first_ready : goal.decreases-first_ready
decreases-first_ready l = length l.some.now

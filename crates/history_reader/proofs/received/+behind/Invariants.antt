use Rattle.std.proofs.Common.{length}
use Rattle.history_reader.proofs.received.+behind.Given as goal

abbrev pub decreases-behind : goal.decreases-behind
decreases-behind l = length l.places.now

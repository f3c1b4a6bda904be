use Rattle.std.proofs.Common.{length}
use Rattle.history_legality.proofs.orders.+beyond.Given as goal

abbrev pub decreases-beyond : goal.decreases-beyond
decreases-beyond l = length l.claims.now

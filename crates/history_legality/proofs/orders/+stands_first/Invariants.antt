use Rattle.std.proofs.Common.{length}
use Rattle.history_legality.proofs.orders.+stands_first.Given as goal

abbrev pub decreases-stands_first : goal.decreases-stands_first
decreases-stands_first l = length l.others.now

use Rattle.std.proofs.Common.{length}
use Rattle.history_legality.proofs.joined.+add_of_one.Given as goal

abbrev pub decreases-add_of_one : goal.decreases-add_of_one
decreases-add_of_one l = length l.handed.now

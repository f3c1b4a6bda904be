use Rattle.std.proofs.Common.{length}
use Rattle.history_legality.proofs.joined.+add_of_line.Given as goal

abbrev pub decreases-add_of_line : goal.decreases-add_of_line
decreases-add_of_line l = length l.opened.now

use Rattle.std.proofs.Common.{length}
use Rattle.history_reader.proofs.states.+reserves_of.Given as goal

abbrev pub decreases-reserves_of : goal.decreases-reserves_of
decreases-reserves_of l = length l.opened.now

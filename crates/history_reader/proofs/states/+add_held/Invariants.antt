use Rattle.std.proofs.Common.{length}
use Rattle.history_reader.proofs.states.+add_held.Given as goal

abbrev pub decreases-add_held : goal.decreases-add_held
decreases-add_held l = length l.opened.now

use Rattle.std.proofs.Common.{length}
use Rattle.history_reader.proofs.rotations.+add_stopped.Given as goal

abbrev pub decreases-add_stopped : goal.decreases-add_stopped
decreases-add_stopped l = length l.printers.now

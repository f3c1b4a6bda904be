use Rattle.std.proofs.Common.{length}
use Rattle.history_reader.proofs.texts.+count_stopped.Given as goal

abbrev pub decreases-count_stopped : goal.decreases-count_stopped
decreases-count_stopped l = length l.printers.now

use Rattle.std.proofs.Common.{length}
use Rattle.history_reader.proofs.texts.+count_printers.Given as goal

abbrev pub decreases-count_printers : goal.decreases-count_printers
decreases-count_printers l = length l.printers.now

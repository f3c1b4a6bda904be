use Rattle.std.proofs.Common.{length}
use Rattle.history_reader.proofs.printers.+is_closed.Given as goal

abbrev pub decreases-is_closed : goal.decreases-is_closed
decreases-is_closed l = length l.entries.now

use Rattle.std.proofs.Common.{length}
use Rattle.history_reader.proofs.printers.+is_stopped_at.Given as goal

abbrev pub decreases-is_stopped_at : goal.decreases-is_stopped_at
decreases-is_stopped_at l = length l.entries.now

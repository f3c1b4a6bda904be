use Rattle.std.proofs.Common.{length}
use Rattle.history_reader.proofs.printers.+out_at.Given as goal

abbrev pub decreases-out_at : goal.decreases-out_at
decreases-out_at l = length l.entries.now

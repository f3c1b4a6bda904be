use Rattle.std.proofs.Common.{length}
use Rattle.history_reader.proofs.printers.+began_at.Given as goal

abbrev pub decreases-began_at : goal.decreases-began_at
decreases-began_at l = length l.entries.now

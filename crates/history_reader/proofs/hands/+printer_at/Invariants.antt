use Rattle.std.proofs.Common.{length}
use Rattle.history_reader.proofs.hands.+printer_at.Given as goal

abbrev pub decreases-printer_at : goal.decreases-printer_at
decreases-printer_at l = length l.printers.now

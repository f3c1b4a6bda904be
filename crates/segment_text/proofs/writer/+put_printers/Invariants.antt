use Rattle.std.proofs.Common.{length}
use Rattle.segment_text.proofs.writer.+put_printers.Given as goal

abbrev pub decreases-put_printers : goal.decreases-put_printers
decreases-put_printers l = length l.printers.now

use Rattle.std.proofs.Common.{length}
use Rattle.segment_text.proofs.stamp.+fits_shape.Given as goal

abbrev pub decreases-fits_shape : goal.decreases-fits_shape
decreases-fits_shape l = length l.octets.now

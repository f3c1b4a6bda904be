use Rattle.std.proofs.Common.{length}
use Rattle.spool_snapshot.proofs.job.+octets_of.Given as goal

abbrev pub decreases-octets_of : goal.decreases-octets_of
decreases-octets_of l = length l.files.now

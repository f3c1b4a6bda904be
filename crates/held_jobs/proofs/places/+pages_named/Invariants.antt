use Rattle.std.proofs.Common.{length}
use Rattle.held_jobs.proofs.places.+pages_named.Given as goal

abbrev pub decreases-pages_named : goal.decreases-pages_named
decreases-pages_named l = length l.files.now

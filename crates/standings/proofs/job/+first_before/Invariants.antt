use Rattle.std.proofs.Common.{length}
use Rattle.standings.proofs.job.+first_before.Given as goal

abbrev pub decreases-first_before : goal.decreases-first_before
decreases-first_before l = length l.jobs.now

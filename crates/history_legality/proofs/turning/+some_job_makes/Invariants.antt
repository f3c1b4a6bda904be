use Rattle.std.proofs.Common.{length}
use Rattle.history_legality.proofs.turning.+some_job_makes.Given as goal

abbrev pub decreases-some_job_makes : goal.decreases-some_job_makes
decreases-some_job_makes l = length l.jobs.now

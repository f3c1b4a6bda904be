use Rattle.std.proofs.Common.{length}
use Rattle.history_legality.proofs.doing.+some_job_may.Given as goal

abbrev pub decreases-some_job_may : goal.decreases-some_job_may
decreases-some_job_may l = length l.jobs.now

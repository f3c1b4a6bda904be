use Rattle.std.proofs.Common.{length}
use Rattle.account_audit.proofs.giving.+less_jobs.Given as goal

abbrev pub decreases-less_jobs : goal.decreases-less_jobs
decreases-less_jobs l = length l.jobs.now

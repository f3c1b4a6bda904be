use Rattle.std.proofs.Common.{length}
use Rattle.history_reader.proofs.jobs.+job_in.Given as goal

abbrev pub decreases-job_in : goal.decreases-job_in
decreases-job_in l = length l.entries.now

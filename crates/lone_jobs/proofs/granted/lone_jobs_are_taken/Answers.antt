use Rattle.lone_jobs.proofs.Whole.{taken}
use Rattle.lone_jobs.proofs.granted.lone_jobs_are_taken.Goals as goal

pub returns : goal.returns
returns c = taken

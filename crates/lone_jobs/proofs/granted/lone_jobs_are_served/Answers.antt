use Rattle.lone_jobs.proofs.Whole.{served}
use Rattle.lone_jobs.proofs.granted.lone_jobs_are_served.Goals as goal

pub returns : goal.returns
returns c = served

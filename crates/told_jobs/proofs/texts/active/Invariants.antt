use Rattle.std.proofs.Common.{◌≡◌, ℕ, ◌<◌, false, get_or}
use Rattle.lpd_values.specs.Choice.{is_active}
use Rattle.told_jobs.proofs.texts.active.Given as goal

abbrev pub invariant-loop-i : goal.invariant-loop-i
invariant-loop-i g l = (no_job : _) (k : ℕ) → k < l.i → is_active l.queue (g.J.ToldJobs.told (get_or (g.J.ToldJobs.jobs l.jobs) k no_job)) ≡ false

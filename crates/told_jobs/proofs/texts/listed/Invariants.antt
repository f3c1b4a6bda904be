use Rattle.std.proofs.Common.{◌≡◌, ◌≤◌, length, take}
use Rattle.lpd_values.specs.Choice.{listed}
use Rattle.told_jobs.proofs.texts.listed.Given as goal

abbrev pub invariant-loop-i : goal.invariant-loop-i
invariant-loop-i g l = (l.count ≡ length (listed g.J.ToldJobs.told l.queue (take l.i (g.J.ToldJobs.jobs l.jobs)))) × (l.count ≤ l.i)

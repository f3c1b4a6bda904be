use Rattle.std.proofs.Common.{◌≡◌, ◌++◌, take}
use Rattle.lpd_values.specs.Texts.{listing}
use Rattle.told_jobs.proofs.texts.put_listing.Given as goal

abbrev pub invariant-loop-i : goal.invariant-loop-i
invariant-loop-i g l = l.text.items ≡ l.fn.text.items ++ listing g.J.ToldJobs.told l.query.queue l.query.list.now l.query.long (take l.i (g.J.ToldJobs.jobs l.jobs))

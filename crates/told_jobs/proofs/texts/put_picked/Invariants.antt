use Rattle.std.proofs.Common.{◌≡◌, ◌++◌, take}
use Rattle.lpd_values.specs.Choice.{picked}
use Rattle.lpd_values.specs.Texts.{removed_lines}
use Rattle.told_jobs.proofs.texts.put_picked.Given as goal

abbrev pub invariant-loop-i : goal.invariant-loop-i
invariant-loop-i g l = l.text.items ≡ l.fn.text.items ++ removed_lines g.J.ToldJobs.told (picked g.J.ToldJobs.told l.queue l.agent l.words (take l.i (g.J.ToldJobs.jobs l.jobs)))

use Rattle.std.proofs.Common.{length, ◌-◌, ◌≤◌, take}
use Rattle.lpd_commands.specs.Ends.{Took}
use Rattle.job_store.proofs.heading.read_full.Given as goal

abbrev pub invariant-loop-count : goal.invariant-loop-count
invariant-loop-count g l = record {
  within : l.count ≤ length l.into;
  took : Took (g.I.OctetRead.left l.fn.reader) (g.I.OctetRead.left l.reader) (take l.count l.into);
}

abbrev pub decreases-loop-count : goal.decreases-loop-count
decreases-loop-count g l = length l.into - l.count

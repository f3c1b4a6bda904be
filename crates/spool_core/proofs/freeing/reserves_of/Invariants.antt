use Rattle.std.proofs.Common.{◌≡◌, ◌≤◌, ◌*◌, ◌^◌, take}
use Rattle.std.specs.Prelude.{sum_by}
use Rattle.held_jobs.specs.Jobs.{HeldJob}
use Rattle.config_values.specs.Config.{reserve_of}
use Rattle.spool_core.proofs.freeing.reserves_of.Given as goal

abbrev pub invariant-loop-i : goal.invariant-loop-i
invariant-loop-i l = record {
  value : l.sum ≡ sum_by (λ (j : HeldJob). reserve_of l.config j.facts.queue) (take l.i l.book.jobs);
  within : l.sum ≤ 2 ^ 40 * l.i;
}

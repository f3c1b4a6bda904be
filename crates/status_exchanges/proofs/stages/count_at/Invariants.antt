use Rattle.std.proofs.Common.{◌≡◌, ◌≤◌, Some, take}
use Rattle.std.specs.Prelude.{count_by}
use Rattle.status_exchanges.specs.Stages.{counts_as}
use Rattle.status_exchanges.proofs.stages.count_at.Given as goal

abbrev pub invariant-loop-standing : goal.invariant-loop-standing
invariant-loop-standing l = record {
  counted : l.count ≡ count_by (counts_as (Some l.stage)) (take l.standing-index l.standings);
  within : l.count ≤ l.standing-index;
}

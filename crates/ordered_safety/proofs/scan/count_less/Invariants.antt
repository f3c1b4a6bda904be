use Rattle.std.proofs.Common.{◌≤◌}
use Rattle.std.specs.Prelude.{vec_capacity}
use Rattle.ordered_safety.specs.Scan.{rows_at}
use Rattle.ordered_safety.proofs.Waiting.{Less}
use Rattle.ordered_safety.proofs.scan.count_less.Given as goal

abbrev pub invariant-loop-at : goal.invariant-loop-at
invariant-loop-at l = record {
  less : Less (rows_at l.rows l.left) l.ahead.items l.gone l.at;
  room : vec_capacity l.fn.ahead ≤ vec_capacity l.ahead;
}

use Rattle.std.proofs.Common.{◌≡◌, ℕ, ◌<◌, ◌≤◌}
use Rattle.std.specs.Prelude.{slice_index, vec_len, vec_capacity}
use Rattle.ordered_safety.specs.Scan.{ahead_of, rows_at}
use Rattle.ordered_safety.proofs.scan.count_ahead.Given as goal

abbrev pub invariant-loop-at : goal.invariant-loop-at
invariant-loop-at l = record {
  len : vec_len l.ahead ≡ l.at;
  each : (j : ℕ) → j < l.at → slice_index l.ahead.items j ≡ ahead_of (rows_at l.rows l.left) j;
  room : vec_capacity l.fn.ahead ≤ vec_capacity l.ahead;
}

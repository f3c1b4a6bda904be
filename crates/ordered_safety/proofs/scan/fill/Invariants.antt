use Rattle.std.proofs.Common.{◌≡◌, ℕ, ◌<◌, ◌≤◌}
use Rattle.std.specs.Prelude.{slice_index, vec_capacity, vec_len}
use Rattle.ordered_safety.proofs.scan.fill.Given as goal

abbrev pub invariant-loop-place : goal.invariant-loop-place
invariant-loop-place l = record {
  len : vec_len l.left ≡ l.place;
  each : (j : ℕ) → j < l.place → slice_index l.left.items j ≡ j;
  room : vec_capacity l.fn.left ≤ vec_capacity l.left;
}

use Rattle.std.proofs.Common.{◌≡◌, ◌≤◌, take, map}
use Rattle.std.specs.Prelude.{vec_capacity}
use Rattle.ordered_safety.proofs.Keeps.{kept_at}
use Rattle.ordered_safety.proofs.kept.keep.Given as goal

abbrev pub invariant-loop-place : goal.invariant-loop-place
invariant-loop-place l = record {
  kept : l.kept.items ≡ map (kept_at l.rows) (take l.place-index l.places);
  room : vec_capacity l.fn.kept ≤ vec_capacity l.kept;
}

use Rattle.std.proofs.Common.{◌≡◌, ◌≤◌, take}
use Rattle.std.specs.Prelude.{vec_capacity}
use Rattle.ordered_safety.specs.Scan.{rows_at}
use Rattle.ordered_safety.specs.Carried.{numbers_of}
use Rattle.ordered_safety.proofs.trial.put_numbers.Given as goal

abbrev pub invariant-loop-place : goal.invariant-loop-place
invariant-loop-place l = record {
  numbers : l.numbers.items ≡ numbers_of (rows_at l.rows (take l.place-index l.places));
  room : vec_capacity l.fn.numbers ≤ vec_capacity l.numbers;
}

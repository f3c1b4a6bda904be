use Rattle.std.proofs.Common.{◌≤◌}
use Rattle.std.specs.Prelude.{vec_capacity}
use Rattle.ordered_safety.proofs.Carries.{Adding}
use Rattle.ordered_safety.proofs.carry.put_others.Given as goal

abbrev pub invariant-loop-place : goal.invariant-loop-place
invariant-loop-place l = record {
  adding : Adding l.rows l.met l.fn.places.items l.greatest l.place l.places.items l.above;
  room : vec_capacity l.fn.places ≤ vec_capacity l.places;
}

use Rattle.std.proofs.Common.{◌≤◌}
use Rattle.std.specs.Prelude.{vec_capacity}
use Rattle.ordered_safety.proofs.Carries.{Carrying}
use Rattle.ordered_safety.proofs.carry.put_met.Given as goal

abbrev pub invariant-loop-row : goal.invariant-loop-row
invariant-loop-row l = record {
  carrying : Carrying l.rows l.kept l.row-index l.places.items l.met.items l.same l.greatest;
  met : vec_capacity l.fn.met ≤ vec_capacity l.met;
  room : vec_capacity l.fn.places ≤ vec_capacity l.places;
}

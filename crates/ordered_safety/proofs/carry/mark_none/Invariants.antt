use Rattle.std.proofs.Common.{◌≡◌, ◌≤◌, false}
use Rattle.std.specs.Prelude.{All, vec_len, vec_capacity}
use Rattle.ordered_safety.proofs.carry.mark_none.Given as goal

abbrev pub invariant-loop : goal.invariant-loop
invariant-loop l = record {
  none : All (λ mark. mark ≡ false) l.met.items;
  len : vec_len l.met ≡ l.counter;
  room : vec_capacity l.fn.met ≤ vec_capacity l.met;
}

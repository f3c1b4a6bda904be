use Rattle.std.proofs.Common.{ℕ, ◌<◌}
use Rattle.ordered_safety.specs.Scan.{HasTurn}
use Rattle.ordered_safety.proofs.follow.turn_of.Given as goal

abbrev pub invariant-loop-at : goal.invariant-loop-at
invariant-loop-at l = (k : ℕ) → k < l.at → HasTurn l.rows l.left l.number k → ⊥

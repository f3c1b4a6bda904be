use Rattle.std.proofs.Common.{◌≡◌, ℕ, ◌<◌, ◌≤◌}
use Rattle.ordered_safety.specs.Scan.{MayGoAt, rows_at}
use Rattle.ordered_safety.specs.Compared.{compared}
use Rattle.ordered_safety.proofs.scan.pick.Given as goal

abbrev pub invariant-loop-at : goal.invariant-loop-at
invariant-loop-at l = record {
  none : (k : ℕ) → k < l.at → MayGoAt l.rows l.left l.free k → ⊥;
  tests : l.tests ≡ compared (rows_at l.rows l.left) l.at;
  most : l.tests ≤ l.at;
  least : 0 < l.at → 0 < l.tests;
}

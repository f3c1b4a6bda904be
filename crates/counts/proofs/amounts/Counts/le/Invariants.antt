use Rattle.std.proofs.Common.{ℕ, ◌<◌, ◌≤◌}
use Rattle.counts.specs.Amounts.{amount}
use Rattle.counts.proofs.amounts.Counts.le.Given as goal

abbrev pub invariant-loop-k : goal.invariant-loop-k
invariant-loop-k l = (j : ℕ) → j < l.k → amount l.self j ≤ amount l.other j

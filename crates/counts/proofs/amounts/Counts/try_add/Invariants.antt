use Rattle.std.proofs.Common.{ℕ, ◌+◌, ◌^◌, ◌<◌}
use Rattle.counts.specs.Amounts.{amount}
use Rattle.counts.proofs.amounts.Counts.try_add.Given as goal

abbrev pub invariant-loop-k : goal.invariant-loop-k
invariant-loop-k l = (j : ℕ) → j < l.k → amount l.self-inside.amounts.items j + amount l.more j < 2 ^ 32

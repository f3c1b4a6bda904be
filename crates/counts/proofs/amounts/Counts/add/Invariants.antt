use Rattle.std.proofs.Common.{◌≡◌, ℕ, ◌+◌, ◌<◌, ◌≤◌, length}
use Rattle.counts.specs.Amounts.{amount}
use Rattle.counts.proofs.amounts.Counts.add.Given as goal

abbrev pub invariant-loop-k : goal.invariant-loop-k
invariant-loop-k l = record {
  len : length l.sums ≡ length l.fn.self;
  done : (j : ℕ) → j < l.k → amount l.sums j ≡ amount l.fn.self j + amount l.more j;
  rest : (j : ℕ) → l.k ≤ j → amount l.sums j ≡ amount l.fn.self j;
}

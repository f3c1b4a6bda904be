use Rattle.std.proofs.Common.{◌≡◌, ℕ, ◌-◌, ◌<◌, ◌≤◌, length}
use Rattle.counts.specs.Amounts.{amount}
use Rattle.counts.proofs.amounts.Counts.sub.Given as goal

abbrev pub invariant-loop-k : goal.invariant-loop-k
invariant-loop-k l = record {
  len : length l.rests ≡ length l.fn.self;
  done : (j : ℕ) → j < l.k → amount l.rests j ≡ amount l.fn.self j - amount l.less j;
  rest : (j : ℕ) → l.k ≤ j → amount l.rests j ≡ amount l.fn.self j;
}

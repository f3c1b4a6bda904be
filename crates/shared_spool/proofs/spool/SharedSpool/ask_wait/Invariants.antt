use Rattle.std.proofs.Common.{◌≡◌}
use Rattle.shared_spool.proofs.spool.SharedSpool.ask_wait.Given as goal

-- nothing was added so far
abbrev pub invariant-loop : goal.invariant-loop
invariant-loop g l = record {
  same : l.seat-inside.shares ≡ l.fn.seat;
  one : l.seat-inside.shares.parts ≡ 1;
  none : l.seat-inside.shares.handed ≡ 0;
}

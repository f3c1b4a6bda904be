use Rattle.std.proofs.Common.{◌≡◌}
use Rattle.shared_spool.proofs.spool.SharedSpool.next_wait.Given as goal

-- nothing was handed so far
abbrev pub invariant-loop : goal.invariant-loop
invariant-loop g l = record {
  same : l.seat ≡ l.fn.seat;
}

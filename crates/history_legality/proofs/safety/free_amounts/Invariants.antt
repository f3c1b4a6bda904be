use Rattle.std.proofs.Common.{◌≡◌, ℕ, ◌<◌, length}
use Rattle.counts.specs.Amounts.{amount}
use Rattle.history_legality.specs.Claimed.{rows_seen, free_beside}
use Rattle.history_legality.proofs.safety.free_amounts.Given as goal

abbrev pub invariant-loop-kind : goal.invariant-loop-kind
invariant-loop-kind l = record {
  count : length l.free.items ≡ l.kind;
  each : (k : ℕ) → k < l.kind → amount l.free.items k ≡ free_beside l.config (rows_seen l.config l.claims) k;
}

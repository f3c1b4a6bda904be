use Rattle.std.proofs.Common.{length, ℕ, ◌<◌}
use Rattle.counts.specs.Amounts.{amount}
use Rattle.history_legality.specs.Claimed.{GoesAt, with_back}
use Rattle.history_legality.proofs.orders.+has_order.Given as goal

abbrev pub decreases-has_order : goal.decreases-has_order
decreases-has_order l = length l.claims.now

abbrev pub invariant-loop-place : goal.invariant-loop-place
invariant-loop-place l = (k : ℕ) → k < l.place → GoesAt l.config (with_back l.config (amount l.free) l.gone) l.claims k → ⊥

use Rattle.std.proofs.Common.{ℕ, ◌<◌, ◌≤◌}
use Rattle.counts.specs.Amounts.{amount}
use Rattle.history_legality.specs.Claimed.{row_seen, with_back}
use Rattle.history_legality.proofs.orders.fits.Given as goal

abbrev pub invariant-loop-kind : goal.invariant-loop-kind
invariant-loop-kind l = (k : ℕ) → k < l.kind → amount (row_seen l.config l.claim).need k ≤ with_back l.config (amount l.free) l.gone k

use Rattle.std.proofs.Common.{◌≡◌, ℕ, ◌+◌, ◌<◌}
use Rattle.spool_calls.specs.Calls.{IsRight}
use Rattle.spool_calls.specs.Readers.{stopped_for}
use Rattle.locked_spool.proofs.locked.Locked.finds_stopped.Given as goal

abbrev pub invariant-loop-before : goal.invariant-loop-before
invariant-loop-before g l = IsRight l.self.core (λ d b h. (i : ℕ) → i < l.before → stopped_for d b h l.self.core (i + 1) ≡ 0)

use Rattle.std.proofs.Common.{◌≡◌}
use Rattle.page_pool.proofs.pool.Pool.filled.Given as goal

abbrev pub invariant-loop : goal.invariant-loop
invariant-loop l = l.pool ≡ record { page_size = l.page_size; pages = l.pages; free = l.counter }

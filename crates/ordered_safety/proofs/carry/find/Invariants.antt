use Rattle.std.proofs.Common.{ℕ, ◌<◌, ◌≤◌, ◌-◌, length}
use Rattle.claims.specs.Claims.{row_at}
use Rattle.ordered_safety.proofs.carry.find.Given as goal

abbrev pub invariant-halves : goal.invariant-halves
invariant-halves l = record {
  within : l.high ≤ length l.rows;
  lower : (j : ℕ) → j < l.low → j < length l.rows → (row_at l.rows j).number < l.number;
  higher : (j : ℕ) → l.high ≤ j → j < length l.rows → l.number < (row_at l.rows j).number;
}

abbrev pub decreases-halves : goal.decreases-halves
decreases-halves l = l.high - l.low

use Rattle.std.proofs.Common.{◌≡◌, ℕ, ◌<◌, false}
use Rattle.std.specs.Prelude.{slice_index}
use Rattle.claims.specs.Claims.{row_at}
use Rattle.claims.specs.Safety.{same_line}
use Rattle.ordered_safety.proofs.follow.is_head.Given as goal

abbrev pub invariant-loop-j : goal.invariant-loop-j
invariant-loop-j l = (k : ℕ) → k < l.j-index → same_line (row_at l.rows l.place) (row_at l.rows (slice_index l.earlier k)) ≡ false

use Rattle.std.proofs.Common.{◌≡◌, ◌≤◌, take}
use Rattle.std.specs.Prelude.{count_by}
use Rattle.claims.specs.Claims.{row_at}
use Rattle.claims.specs.Safety.{same_line}
use Rattle.ordered_safety.specs.Scan.{rows_at}
use Rattle.ordered_safety.proofs.scan.count_line.Given as goal

abbrev pub invariant-loop-j : goal.invariant-loop-j
invariant-loop-j l = record {
  counted : l.count ≡ count_by (same_line (row_at l.rows l.place)) (rows_at l.rows (take l.j-index l.earlier));
  most : l.count ≤ l.j-index;
}

use Rattle.std.proofs.Common.{◌≡◌, ◌≤◌, ◌+◌, ◌*◌, length}
use Rattle.std.specs.Prelude.{◌<◌, All, vec_len, vec_capacity}
use Rattle.counts.specs.Amounts.{amount}
use Rattle.ordered_safety.specs.Scan.{rows_at, CountsAhead}
use Rattle.ordered_safety.proofs.Turns.{Leaving, Scanned}
use Rattle.ordered_safety.proofs.scan.scan.Given as goal

abbrev pub invariant-turns : goal.invariant-turns
invariant-turns l = record {
  leaving : Leaving l.rows l.work.left.items l.fn.work.free l.work.free;
  scanned : Scanned (amount l.fn.work.free) l.rows (amount l.work.free) (rows_at l.rows l.work.left.items) (rows_at l.rows l.work.places.items) l.tests;
  gone : All (λ j. j < length l.rows) l.work.places.items;
  counts : CountsAhead (rows_at l.rows l.work.left.items) l.work.ahead.items;
  most : 2 * l.tests + length l.work.left.items * (length l.work.left.items + 1) ≤ length l.rows * (length l.rows + 1);
  least : length l.work.places.items ≤ l.tests;
  all : length l.work.places.items + length l.work.left.items ≡ length l.rows;
  met : vec_capacity l.fn.work.met ≤ vec_capacity l.work.met;
  numbers : vec_capacity l.fn.work.numbers ≤ vec_capacity l.work.numbers;
  left : vec_capacity l.fn.work.left ≤ vec_capacity l.work.left;
  ahead : vec_capacity l.fn.work.ahead ≤ vec_capacity l.work.ahead;
  room : vec_capacity l.fn.work.places ≤ vec_capacity l.work.places;
}

abbrev pub decreases-turns : goal.decreases-turns
decreases-turns l = vec_len l.work.left

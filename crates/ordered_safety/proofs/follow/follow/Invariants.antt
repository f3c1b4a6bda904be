use Rattle.std.proofs.Common.{◌≡◌, ◌≤◌, ◌+◌, length, drop}
use Rattle.std.specs.Prelude.{vec_capacity}
use Rattle.counts.specs.Amounts.{amount}
use Rattle.ordered_safety.specs.Scan.{rows_at}
use Rattle.ordered_safety.proofs.Turns.{Leaving, Followed}
use Rattle.ordered_safety.proofs.follow.follow.Given as goal

abbrev pub invariant-numbers : goal.invariant-numbers
invariant-numbers l = record {
  leaving : Leaving l.rows l.left.items l.fn.free l.free;
  followed : Followed (amount l.fn.free) l.rows l.numbers (amount l.free) (rows_at l.rows l.left.items) (drop l.number-index l.numbers) l.tests;
  count : l.tests + length l.left.items ≡ length l.rows;
  room : vec_capacity l.fn.left ≤ vec_capacity l.left;
}

use Rattle.std.proofs.Common.{◌≡◌, length, drop}
use Rattle.counts.specs.Amounts.{amount}
use Rattle.ordered_safety.specs.Scan.{StaysSmall, rows_at}
use Rattle.ordered_safety.proofs.Walks.{Walked}
use Rattle.ordered_safety.proofs.trial.walk.Given as goal

abbrev pub invariant-loop-place : goal.invariant-loop-place
invariant-loop-place l = record {
  tests : l.tests ≡ l.place-index;
  small : StaysSmall l.free (drop l.place-index (rows_at l.rows l.places));
  kinds : length l.free ≡ length l.fn.free;
  walked : Walked (amount l.fn.free) (rows_at l.rows l.places) (amount l.free) (drop l.place-index (rows_at l.rows l.places)) l.tests;
}

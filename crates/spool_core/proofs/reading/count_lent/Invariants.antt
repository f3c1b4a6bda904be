use Rattle.std.proofs.Common.{◌≡◌, ◌≤◌, take}
use Rattle.spool_calls.specs.Stocks.{lent_among}
use Rattle.spool_core.proofs.reading.count_lent.Given as goal

abbrev pub invariant-loop-i : goal.invariant-loop-i
invariant-loop-i l = record { few : l.lent ≤ l.i; counted : l.lent ≡ lent_among (take l.i l.book.jobs) }

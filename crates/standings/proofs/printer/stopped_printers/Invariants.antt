use Rattle.std.proofs.Common.{◌≡◌, ◌≤◌, take}
use Rattle.standings.specs.Printers.{count_at, is_stopped_at}
use Rattle.standings.proofs.printer.stopped_printers.Given as goal

abbrev pub invariant-loop-i : goal.invariant-loop-i
invariant-loop-i l = record {
  counted : l.count ≡ count_at (is_stopped_at l.notes) 0 (take l.i l.printers);
  few : l.count ≤ l.i;
}

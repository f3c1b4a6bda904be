use Rattle.std.proofs.Common.{◌≤◌, take, drop}
use Rattle.printer_names.specs.Cuts.{EndsAtPoint, HasNoPoint}
use Rattle.printer_names.proofs.cutting.last_point.Given as goal

abbrev pub invariant-loop-i : goal.invariant-loop-i
invariant-loop-i l = record {
  within : l.start ≤ l.i;
  ends : EndsAtPoint (take l.start l.octets);
  behind : HasNoPoint (drop l.start (take l.i l.octets));
}

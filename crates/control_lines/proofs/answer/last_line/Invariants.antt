use Rattle.std.proofs.Common.{◌≤◌, take, drop}
use Rattle.control_lines.specs.Answers.{IsOneLine, IsWhole}
use Rattle.control_lines.proofs.answer.last_line.Given as goal

abbrev pub invariant-loop-i : goal.invariant-loop-i
invariant-loop-i l = record {
  within : l.start ≤ l.i;
  whole : IsWhole (take l.start l.octets);
  line : IsOneLine (drop l.start (take l.i l.octets));
}

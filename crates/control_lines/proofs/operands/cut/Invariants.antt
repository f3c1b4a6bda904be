use Rattle.std.proofs.Common.{take}
use Rattle.control_lines.specs.Operands.{HasNoSpace}
use Rattle.control_lines.proofs.operands.cut.Given as goal

abbrev pub invariant-loop-i : goal.invariant-loop-i
invariant-loop-i l = HasNoSpace (take l.i l.text)

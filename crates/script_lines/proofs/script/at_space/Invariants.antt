use Rattle.std.proofs.Common.{take}
use Rattle.script_lines.specs.Grammar.{HasNoSpace}
use Rattle.script_lines.proofs.script.at_space.Given as goal

abbrev pub invariant-loop-i : goal.invariant-loop-i
invariant-loop-i l = HasNoSpace (take l.i l.text)

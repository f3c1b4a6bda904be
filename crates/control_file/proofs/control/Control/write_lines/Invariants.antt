use Rattle.std.proofs.Common.{◌≡◌, ◌++◌, take}
use Rattle.control_file.specs.Written.{print_lines}
use Rattle.control_file.proofs.control.Control.write_lines.Given as goal

abbrev pub invariant-loop-name : goal.invariant-loop-name
invariant-loop-name l = l.text.items ≡ l.initial.text.items ++ print_lines (take l.name-index l.name-items)

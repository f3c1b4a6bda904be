use Rattle.std.proofs.Common.{◌≡◌, length}
use Rattle.std.specs.List.{list_all}
use Rattle.lpd_values.specs.Name.{is_data_name}
use Rattle.control_file.specs.Text.{prints_of}
use Rattle.control_file.proofs.lines.all_data_names.Given as goal

abbrev pub invariant-loop-operand : goal.invariant-loop-operand
invariant-loop-operand l = list_all is_data_name (prints_of l.rest) ≡ list_all is_data_name (prints_of l.text)

abbrev pub decreases-loop-operand : goal.decreases-loop-operand
decreases-loop-operand l = length l.rest

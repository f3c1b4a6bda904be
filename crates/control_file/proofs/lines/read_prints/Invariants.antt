use Rattle.std.proofs.Common.{◌≡◌, ◌++◌, true, length}
use Rattle.std.specs.List.{list_all}
use Rattle.lpd_values.specs.Name.{is_data_name}
use Rattle.control_file.specs.Text.{prints_of}
use Rattle.control_file.proofs.lines.read_prints.Given as goal

abbrev pub invariant-loop-operand : goal.invariant-loop-operand
invariant-loop-operand l = record {
  names : l.names ++ prints_of l.rest ≡ prints_of l.text;
  data_names : list_all is_data_name (prints_of l.rest) ≡ true;
}

abbrev pub decreases-loop-operand : goal.decreases-loop-operand
decreases-loop-operand l = length l.rest

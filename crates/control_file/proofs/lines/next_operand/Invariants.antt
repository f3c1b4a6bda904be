use Rattle.std.proofs.Common.{◌≡◌, ◌≤◌, ◌⊎◌, [], true, length}
use Rattle.lpd_values.specs.Pieces.{begins_piece}
use Rattle.lpd_values.specs.Kept.{is_line_feed}
use Rattle.control_file.specs.Text.{lines_of, operands_of}
use Rattle.control_file.specs.Fields.{letter_test}
use Rattle.control_file.proofs.lines.next_operand.Given as goal

abbrev pub invariant-loop-text : goal.invariant-loop-text
invariant-loop-text l = record {
  operands : operands_of (letter_test l.field) (lines_of l.text) ≡ operands_of (letter_test l.field) (lines_of l.fn.text);
  at_line : (l.text ≡ []) ⊎ (begins_piece is_line_feed l.text ≡ true);
  within : length l.text ≤ length l.fn.text;
}

abbrev pub decreases-loop-text : goal.decreases-loop-text
decreases-loop-text l = length l.text

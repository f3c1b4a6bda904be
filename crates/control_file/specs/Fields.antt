-- The letters of the fields.
use Rattle.std.specs.Prelude.{ℕ, Bool, List}
use Rattle.control_file.specs.declared.lines.Field.{Field}
use Rattle.control_file.specs.declared.lines.Field.TheVariants.{Host, User, Print}
use Rattle.control_file.specs.Text.{lines_of, operands_of, is_host_letter, is_user_letter, is_print_letter}

abbrev pub letter_test : Field → ℕ → Bool
letter_test Host = is_host_letter
letter_test User = is_user_letter
letter_test Print = is_print_letter

-- the operands of the lines of this field, in order
abbrev pub operands_in : Field → List ℕ → List (List ℕ)
operands_in field text = operands_of (letter_test field) (lines_of text)

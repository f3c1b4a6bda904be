-- What the text of a control file means, as a function of its octets.
use Rattle.std.specs.Prelude.{ℕ, Bool, List, [], ◌∷◌, ◌==◌, ◌||◌, nat_lt, length, not, Option, Some, None, Result, Ok, Err, if◌then◌else◌, slice_get}
use Rattle.std.specs.List.{list_all}
use Rattle.lpd_values.specs.Pieces.{pieces_of}
use Rattle.lpd_values.specs.Name.{is_data_name, number_of}
use Rattle.lpd_values.specs.declared.refusal.Refusal.{Refusal}
use Rattle.lpd_values.specs.declared.refusal.Refusal.TheVariants.{NoHost, NoUser, NoPrintLine, TooManyPrints, BadLength, BadName}
pub use Rattle.lpd_values.specs.Contents.{Contents}
use Rattle.lpd_values.specs.Kept.{is_line_feed, is_operand_len}
use Rattle.lpd_values.specs.declared.limits.TheConstants.{MAX_CONTROL_TEXT, MAX_PRINTS}

-- the lines of a text that aren't empty, each without its LF
abbrev pub lines_of : List ℕ → List (List ℕ)
lines_of = pieces_of is_line_feed

-- H
abbrev pub is_host_letter : ℕ → Bool
is_host_letter b = b == 72

-- P
abbrev pub is_user_letter : ℕ → Bool
is_user_letter b = b == 80

-- c, d, f, g, l, n, o, p, r, t, v
abbrev pub is_print_letter : ℕ → Bool
is_print_letter b =
    b == 99 || b == 100 || b == 102 || b == 103 || b == 108 || b == 110 || b == 111 || b == 112
    || b == 114 || b == 116 || b == 118

-- the operands of the lines whose letter passes the test, in order
abbrev pub operands_of : (ℕ → Bool) → List (List ℕ) → List (List ℕ)
operands_of test [] = []
operands_of test ([] ∷ lines) = operands_of test lines
operands_of test ((letter ∷ operand) ∷ lines) =
    if test letter then operand ∷ operands_of test lines else operands_of test lines

-- the first host and user, and all names to print
abbrev pub first_host : List ℕ → Option (List ℕ)
first_host text = slice_get (operands_of is_host_letter (lines_of text)) 0

abbrev pub first_user : List ℕ → Option (List ℕ)
first_user text = slice_get (operands_of is_user_letter (lines_of text)) 0

abbrev pub prints_of : List ℕ → List (List ℕ)
prints_of text = operands_of is_print_letter (lines_of text)

-- the print list of these names, or the first refusal of them
abbrev pub print_list : List (List ℕ) → Result (List (List ℕ)) Refusal
print_list names =
    if length names == 0 then Err NoPrintLine
    else if nat_lt MAX_PRINTS (length names) then Err TooManyPrints
    else if list_all is_data_name names then Ok names
    else Err BadName

abbrev pub with_prints :
    List ℕ → List ℕ → ℕ → Result (List (List ℕ)) Refusal → Result Contents Refusal
with_prints host user number (Ok prints) =
    Ok (record { host = host; user = user; number = number; prints = prints })
with_prints host user number (Err refusal) = Err refusal

abbrev pub control_with :
    ℕ → Option (List ℕ) → Option (List ℕ) → List (List ℕ) → Result Contents Refusal
control_with number None user names = Err NoHost
control_with number (Some host) None names = Err NoUser
control_with number (Some host) (Some user) names =
    if not (is_operand_len (length host)) then Err BadLength
    else if not (is_operand_len (length user)) then Err BadLength
    else with_prints host user number (print_list names)

-- what a text means under the name of its control file, or its first refusal
abbrev pub control_of : List ℕ → List ℕ → Result Contents Refusal
control_of name text =
    if length text == 0 || nat_lt MAX_CONTROL_TEXT (length text) then Err BadLength
    else control_with (number_of name) (first_host text) (first_user text) (prints_of text)

-- The text that is written.
use Rattle.std.specs.Prelude.{ℕ, Bool, true, false, List, [], ◌∷◌, ◌++◌, length, nat_lt}
use Rattle.lpd_values.specs.Contents.{Contents}
use Rattle.lpd_values.specs.declared.limits.TheConstants.{MAX_CONTROL_TEXT}

-- one line for each name, with f, each with its LF
abbrev pub print_lines : List (List ℕ) → List ℕ
print_lines [] = []
print_lines (name ∷ names) = 102 ∷ (name ++ 10 ∷ print_lines names)

-- the same, with an LF between two lines alone
abbrev pub open_lines : List (List ℕ) → List ℕ
open_lines [] = []
open_lines (name ∷ []) = 102 ∷ name
open_lines (name ∷ next ∷ names) = 102 ∷ (name ++ 10 ∷ open_lines (next ∷ names))

-- the lines that print, of which the last one has no LF if so
abbrev pub last_lines : Bool → List (List ℕ) → List ℕ
last_lines true names = open_lines names
last_lines false names = print_lines names

-- the host's line, the user's line, and these lines
abbrev pub text_with : Contents → List ℕ → List ℕ
text_with contents lines = 72 ∷ (contents.host ++ 10 ∷ (80 ∷ (contents.user ++ 10 ∷ lines)))

-- the last line's LF would make the text longer than one may be
abbrev pub is_over : Contents → Bool
is_over contents = nat_lt MAX_CONTROL_TEXT (length (text_with contents (print_lines contents.prints)))

-- the host's line, the user's line, the print lines, each with its LF but for the last line's where the text would be too long by it
abbrev pub control_text : Contents → List ℕ
control_text contents = text_with contents (last_lines (is_over contents) contents.prints)

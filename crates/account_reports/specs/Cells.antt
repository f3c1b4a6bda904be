-- Cells of a table with commas, for spreadsheets.
use Rattle.std.specs.Prelude.{ℕ, Bool, false, List, [], ◌∷◌, ◌==◌, ◌||◌, if◌then◌else◌}

-- a spreadsheet may run a text that begins with this octet: `=`, `+`, `-`, `@`, a tab or a carriage return
abbrev pub begins_formula : ℕ → Bool
begins_formula b = b == 61 || b == 43 || b == 45 || b == 64 || b == 9 || b == 13

-- a spreadsheet may run this text
abbrev pub is_formula : List ℕ → Bool
is_formula [] = false
is_formula (b ∷ bs) = begins_formula b

-- a name as a text that a spreadsheet shows: with a `'` in front where it may run it
abbrev pub name_cell : List ℕ → List ℕ
name_cell name = if is_formula name then 39 ∷ name else name

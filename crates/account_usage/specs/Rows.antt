-- Rows of a table of usage, and their sums.
use Rattle.std.specs.Prelude.{ℕ, List, Vec, [], ◌∷◌, ◌++◌, if◌then◌else◌, map, sum_by}
use Rattle.std.specs.Global.{Global}
use Rattle.lpd_values.specs.Kept.{is_among}
use Rattle.account_usage.specs.declared.held.HeldJob.{HeldJob}
use Rattle.account_usage.specs.declared.rows.Totals.{Totals}

-- a name, and what is told of it
abbrev pub Row : Type 0
Row = Vec ℕ Global × Totals

-- the names of rows, in order
abbrev pub row_names : List Row → List (List ℕ)
row_names rows = map (λ (r : Row). r.0.items) rows

-- these names with one more, if it isn't one of them
abbrev pub names_with : List ℕ → List (List ℕ) → List (List ℕ)
names_with name names = if is_among name names then names else names ++ name ∷ []

-- the octets that rows, and jobs that haven't ended, have been sent, and had printed
abbrev pub rows_sent : List Row → ℕ
rows_sent rows = sum_by (λ (r : Row). r.1.sent) rows

abbrev pub rows_printed : List Row → ℕ
rows_printed rows = sum_by (λ (r : Row). r.1.printed) rows

abbrev pub held_sent : List HeldJob → ℕ
held_sent held = sum_by (λ (j : HeldJob). j.sent) held

abbrev pub held_printed : List HeldJob → ℕ
held_printed held = sum_by (λ (j : HeldJob). j.printed) held

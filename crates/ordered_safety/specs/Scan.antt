-- What the scan keeps: places of rows that are left.
use Rattle.std.specs.Prelude.{◌≡◌, ℕ, ◌+◌, ◌<◌, ◌^◌, false, List, slice_index, map, length, take, count_by}
use Rattle.counts.specs.Amounts.{amount, Fits}
use Rattle.claims.specs.declared.row.Row.{Row}
use Rattle.claims.specs.Claims.{row_at, held_of}
use Rattle.claims.specs.Safety.{same_line}

-- the rows at these places
abbrev pub rows_at : List Row → List ℕ → List Row
rows_at rows places = map (row_at rows) places

-- the row at the place that stands at `at` in these places
abbrev pub row_of : List Row → List ℕ → ℕ → Row
row_of rows left at = row_at rows (slice_index left at)

-- none of these places has a row of its line
abbrev pub IsHead : List Row → List ℕ → ℕ → Type 0
IsHead rows earlier place = (j : ℕ) → j < length earlier → same_line (row_at rows place) (row_at rows (slice_index earlier j)) ≡ false

-- of these places the one at `at` may go now: what it needs is free, and none before it is of its line
pub record MayGoAt (rows : List Row) (left : List ℕ) (free : List ℕ) (at : ℕ) : Type 0 where
  pub there : at < length left
  pub fits : Fits (row_of rows left at).need (amount free)
  pub in_line : (j : ℕ) → j < at → same_line (row_of rows left at) (row_of rows left j) ≡ false

-- how many earlier ones of these rows are of the line of the one at `at`
abbrev pub ahead_of : List Row → ℕ → ℕ
ahead_of rows at = count_by (same_line (row_at rows at)) (take at rows)

-- these are the counts of all rows
pub record CountsAhead (rows : List Row) (counts : List ℕ) : Type 0 where
  pub all : length counts ≡ length rows
  pub each : (at : ℕ) → at < length rows → slice_index counts at ≡ ahead_of rows at

-- what is free and what all rows hold are amounts together
abbrev pub StaysSmall : List ℕ → List Row → Type 0
StaysSmall free rows = (kind : ℕ) → amount free kind + held_of kind rows < 2 ^ 32

-- the row at `at` has this number, and none before it is of its line
pub record HasTurn (rows : List Row) (left : List ℕ) (number at : ℕ) : Type 0 where
  pub there : at < length left
  pub numbered : (row_of rows left at).number ≡ number
  pub in_line : (j : ℕ) → j < at → same_line (row_of rows left at) (row_of rows left j) ≡ false

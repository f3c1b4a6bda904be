-- How often needs are compared with what is free: by a scan, and by the check of an order.
use Rattle.std.specs.Prelude.{◌≡◌, ◌⊎◌, ℕ, zero, suc, ◌+◌, ◌<◌, false, List, [], ◌∷◌, length, take, remove, if◌then◌else◌}
use Rattle.std.specs.List.{list_any}
use Rattle.counts.specs.Amounts.{amount, Fits}
use Rattle.claims.specs.declared.row.Row.{Row}
use Rattle.claims.specs.Claims.{Claims, IsTable, row_at}
use Rattle.claims.specs.Safety.{freed, same_line}

-- how many of the first n of these rows no earlier one of their line precedes: those whose needs are compared
abbrev pub compared : List Row → ℕ → ℕ
compared rows zero = 0
compared rows (suc n) = compared rows n + (if list_any (same_line (row_at rows n)) (take n rows) then 0 else 1)

-- no earlier one of these rows is of the line of the one at `at`
abbrev pub HasNoEarlier : List Row → ℕ → Type 0
HasNoEarlier rows at = (j : ℕ) → j < at → same_line (row_at rows at) (row_at rows j) ≡ false

-- the row at `at` may go: no earlier one is of its line, and what it needs is free
pub record CanGo (free : ℕ → ℕ) (rows : List Row) (at : ℕ) : Type 0 where
  pub there : at < length rows
  pub fits : Fits (row_at rows at).need free
  pub in_line : HasNoEarlier rows at

-- it is the first that may
abbrev pub GoesNext : (ℕ → ℕ) → List Row → ℕ → Type 0
GoesNext free rows at = CanGo free rows at × ((k : ℕ) → k < at → CanGo free rows k → ⊥)

abbrev pub NoneCanGo : (ℕ → ℕ) → List Row → Type 0
NoneCanGo free rows = (at : ℕ) → CanGo free rows at → ⊥

-- the places of the rows that go: in each turn the first that may, which gives back what it holds, until none may
abbrev pub AreTurns : (ℕ → ℕ) → List Row → List ℕ → Type 0
AreTurns free rows [] = NoneCanGo free rows
AreTurns free rows (at ∷ turns) = GoesNext free rows at × AreTurns (freed free (row_at rows at)) (remove rows at) turns

-- what these turns compare: needs up to that of the row that goes, and in the end, where none may, those of all rows
abbrev pub scan_tests : List Row → List ℕ → ℕ
scan_tests rows [] = compared rows (length rows)
scan_tests rows (at ∷ turns) = compared rows (at + 1) + scan_tests (remove rows at) turns

-- a scan of these rows compares so often
abbrev pub ScanTakes : (ℕ → ℕ) → List Row → ℕ → Type 0
ScanTakes free rows tests = (turns : List ℕ) × AreTurns free rows turns × (tests ≡ scan_tests rows turns)

-- the row at `at` has this number, and no earlier one is of its line
pub record IsNext (rows : List Row) (number at : ℕ) : Type 0 where
  pub there : at < length rows
  pub numbered : (row_at rows at).number ≡ number
  pub in_line : HasNoEarlier rows at

-- no row has this number and no earlier one of its line
abbrev pub NoneIsNext : List Row → ℕ → Type 0
NoneIsNext rows number = (at : ℕ) → IsNext rows number at → ⊥

-- the check of an order compares so often: once for each number, up to the first whose row isn't next, which isn't
-- compared, or whose row needs more than is free, which is
abbrev pub CheckTakes : (ℕ → ℕ) → List Row → List ℕ → ℕ → Type 0
CheckTakes free rows [] tests = tests ≡ 0
CheckTakes free rows (number ∷ numbers) tests =
    (NoneIsNext rows number × (tests ≡ 0))
    ⊎ ((at : ℕ) × IsNext rows number at
    × ((¬ (Fits (row_at rows at).need free) × (tests ≡ 1))
    ⊎ (Fits (row_at rows at).need free × (later : ℕ) × (tests ≡ later + 1)
    × CheckTakes (freed free (row_at rows at)) (remove rows at) numbers later)))

-- so often a decision about a table compares
abbrev pub DecisionTakes : Claims → ℕ → Type 0
DecisionTakes t tests = ScanTakes (amount t.free) t.rows tests

-- and so often the check of an order of its rows
abbrev pub OrderTakes : Claims → List ℕ → ℕ → Type 0
OrderTakes t numbers tests = CheckTakes (amount t.free) t.rows numbers tests

-- the number of comparisons of a decision is one
abbrev pub IsOneNumber : Type 0
IsOneNumber = (t : Claims) (n m : ℕ) → DecisionTakes t n → DecisionTakes t m → n ≡ m

-- and so is that of the check of an order
abbrev pub IsOneNumberOfOrder : Type 0
IsOneNumberOfOrder =
    (t : Claims) (numbers : List ℕ) (n m : ℕ) → IsTable t → OrderTakes t numbers n → OrderTakes t numbers m → n ≡ m

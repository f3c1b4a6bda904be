-- The kept order, carried to the rows that there are now, and how often a decision on a page compares.
use Rattle.std.specs.Prelude.{◌≡◌, ◌⊎◌, ◌==◌, ℕ, ◌+◌, ◌<◌, Bool, false, not, List, ◌++◌, length, slice_index_or, filter, map}
use Rattle.std.specs.List.{list_any}
use Rattle.claims.specs.declared.row.Row.{Row}
use Rattle.claims.specs.Claims.{Claims, IsTable, row_at}
use Rattle.claims.specs.Safety.{FinishesBy}
use Rattle.ordered_safety.specs.Compared.{OrderTakes, DecisionTakes}

abbrev pub numbers_of : List Row → List ℕ
numbers_of rows = map (λ row. row.number) rows

-- the row with this number stands at the place
pub record StandsAt (rows : List Row) (number place : ℕ) : Type 0 where
  pub there : place < length rows
  pub numbered : (row_at rows place).number ≡ number

-- one of the rows has this number
abbrev pub has_row : List Row → ℕ → Bool
has_row rows number = list_any (λ row. row.number == number) rows

-- one of these numbers is the row's
abbrev pub is_among : List ℕ → Row → Bool
is_among numbers row = list_any (λ number. number == row.number) numbers

abbrev pub is_lacked : List ℕ → Row → Bool
is_lacked numbers row = not (is_among numbers row)

-- marked are the places of the rows that have one of these numbers
abbrev pub AreMet : List Row → List ℕ → List Bool → Type 0
AreMet rows numbers marks =
    (place : ℕ) → place < length rows → slice_index_or marks place false ≡ is_among numbers (row_at rows place)

-- an order of numbers, carried to these rows: the numbers that a row has, in their order, and then those of the rows that the
-- order lacks, as these stand
abbrev pub carried : List Row → List ℕ → List ℕ
carried rows order = filter (has_row rows) order ++ numbers_of (filter (is_lacked order) rows)

-- the order, carried to the table's rows, is a finishing order
abbrev pub StillServes : Claims → List ℕ → Type 0
StillServes t order = FinishesBy t (carried t.rows order)

-- so often a decision on a page compares, that makes this table, where this order was kept: once for each row where the carried
-- order is a finishing order; otherwise as often as the check of the carried order and then a scan
abbrev pub AfterPageTakes : Claims → List ℕ → ℕ → Type 0
AfterPageTakes t order tests =
    (StillServes t order × (tests ≡ length t.rows))
    ⊎ (¬ (StillServes t order) × (tried : ℕ) × (scanned : ℕ) × (tests ≡ tried + scanned) × OrderTakes t (carried t.rows order) tried × DecisionTakes t scanned)

-- for a table and a kept order that number is one
abbrev pub IsOneNumberAfterPage : Type 0
IsOneNumberAfterPage =
    (t : Claims) (order : List ℕ) (n m : ℕ) → IsTable t → AfterPageTakes t order n → AfterPageTakes t order m → n ≡ m

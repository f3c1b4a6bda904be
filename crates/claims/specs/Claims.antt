-- What a table of claims shows, and what always holds of it.
use Rattle.std.specs.Prelude.{◌≡◌, ℕ, ◌+◌, ◌<◌, ◌≤◌, ◌^◌, List, [], ◌∷◌, All, slice_index_or, sum_by, length}
use Rattle.std.specs.List.{AllByRecursion}
use Rattle.counts.specs.Amounts.{amount}
use Rattle.claims.specs.declared.row.Row.{Row}

-- a row that isn't there
abbrev pub no_row : Row
no_row = record { number = 0; sender = 0; queue = 0; held = []; need = [] }

-- the row at a place
abbrev pub row_at : List Row → ℕ → Row
row_at rows i = slice_index_or rows i no_row

-- what all rows hold of a kind
abbrev pub held_of : ℕ → List Row → ℕ
held_of kind rows = sum_by (λ row. amount row.held kind) rows

-- what is free and what the rows hold is the capacity
abbrev pub AddsUp : List ℕ → List ℕ → List Row → Type 0
AddsUp capacity free rows = (kind : ℕ) → amount free kind + held_of kind rows ≡ amount capacity kind

-- each row has an amount of each kind
abbrev pub HaveKinds : ℕ → List Row → Type 0
HaveKinds kinds rows = All (λ row. (length row.held ≡ kinds) × (length row.need ≡ kinds)) rows

-- the first has the lower number
abbrev pub IsLower : Row → Row → Type 0
IsLower a b = a.number < b.number

-- each stands so to all later ones
abbrev pub Pairwise : (Row → Row → Type 0) → List Row → Type 0
Pairwise R [] = Unit {0}
Pairwise R (x ∷ xs) = AllByRecursion (R x) xs × Pairwise R xs

-- what is seen of a table: the capacity and what is free by kind, the rows, and room for how many
pub record Claims : Type 0 where
  pub capacity : List ℕ
  pub free : List ℕ
  pub rows : List Row
  pub room : ℕ

-- what always holds of a table
pub record IsTable (t : Claims) : Type 0 where
  pub small : (kind : ℕ) → amount t.capacity kind < 2 ^ 32
  pub few : t.room < 2 ^ 32
  pub within : length t.rows ≤ t.room
  pub rising : Pairwise IsLower t.rows
  pub adds_up : AddsUp t.capacity t.free t.rows
  pub kinds : HaveKinds (length t.capacity) t.rows
  pub same_kinds : length t.free ≡ length t.capacity

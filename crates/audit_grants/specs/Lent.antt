-- Tables in which rows hold something.
use Rattle.std.specs.Prelude.{◌≡◌, ℕ, ◌+◌, ◌-◌, List, [], ◌∷◌, ◌++◌, map, slice_set}
use Rattle.counts.specs.Amounts.{amount}
use Rattle.claims.specs.declared.row.Row.{Row}
use Rattle.claims.specs.Claims.{Claims, row_at}
use Rattle.claims.specs.Changes.{row_with}
use Rattle.config_values.specs.Config.{Config}
use Rattle.spool_history.specs.Now.{Job, capacity, row_of}
use Rattle.account.specs.declared.entry.Outline.{Outline}

-- the row with n more of a kind, and n fewer needed
abbrev pub lent_row : ℕ → ℕ → Row → Row
lent_row kind n row = row_with (slice_set row.held kind (amount row.held kind + n)) (slice_set row.need kind (amount row.need kind - n)) row

-- the table where the row at i holds n more of a kind and needs n fewer, and n fewer are free
abbrev pub lent : Claims → ℕ → ℕ → ℕ → Claims
lent t i kind n = record t {
  free = slice_set t.free kind (amount t.free kind - n);
  rows = slice_set t.rows i (lent_row kind n (row_at t.rows i));
}

-- a table with this row more, the last one
pub record HasRow (was : Claims) (row : Row) (is : Claims) : Type 0 where
  pub rows : is.rows ≡ was.rows ++ row ∷ []
  pub capacity : is.capacity ≡ was.capacity
  pub room : is.room ≡ was.room

-- the table of the claims that jobs have
pub record IsTableFor (c : Config) (jobs : List (Job Outline)) (t : Claims) : Type 0 where
  pub rows : t.rows ≡ map (row_of c) jobs
  pub capacity : t.capacity ≡ capacity c
  pub room : t.room ≡ c.max_jobs

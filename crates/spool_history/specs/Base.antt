-- What a history begins from: what earlier events left, where no job was held.
use Rattle.std.specs.Prelude.{ℕ, Bool, false, List, [], ◌∷◌, slice_index_or}

pub record Base : Type 0 where
  -- the last acceptance number, or 0 before the first
  pub accepted : ℕ
  -- the counted reserve, in entries of the account
  pub reserved : ℕ
  -- whether the spool is closed
  pub closed : Bool
  -- for each printer, by its number from 1, whether it is stopped; one that the list lacks is not
  pub stopped : List Bool

-- the base of a spool in which nothing has happened
abbrev pub first_base : Base
first_base = record { accepted = 0; reserved = 0; closed = false; stopped = [] }

-- whether a printer is stopped; 0 is the number of none
abbrev pub was_stopped : Base → ℕ → Bool
was_stopped b p = slice_index_or (false ∷ b.stopped) p false

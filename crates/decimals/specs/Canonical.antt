-- How a number isn't spelt.
use Rattle.std.specs.Prelude.{◌==◌, ◌&&◌, ℕ, Bool, true, false, List, [], ◌∷◌, not}

abbrev is_empty : List ℕ → Bool
is_empty [] = true
is_empty (b ∷ bs) = false

-- digits that begin with no +, and with 0 only where that is all
abbrev pub is_canonical : List ℕ → Bool
is_canonical [] = true
is_canonical (d ∷ ds) = not (d == 43) && not (d == 48 && not (is_empty ds))

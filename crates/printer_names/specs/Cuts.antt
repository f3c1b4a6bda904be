-- The last point of a text.
use Rattle.std.specs.Prelude.{◌≡◌, ◌⊎◌, ◌==◌, ◌++◌, ◌∷◌, [], ℕ, Bool, true, List, drop, not, take}
use Rattle.std.specs.List.{list_all}

abbrev pub is_no_point : ℕ → Bool
is_no_point octet = not (octet == 46)

abbrev pub HasNoPoint : List ℕ → Type 0
HasNoPoint octets = list_all is_no_point octets ≡ true

-- nothing, or octets with a point behind them
abbrev pub EndsAtPoint : List ℕ → Type 0
EndsAtPoint octets = (octets ≡ []) ⊎ ((front : List ℕ) × (octets ≡ front ++ 46 ∷ []))

-- what stands behind the last point begins here
abbrev pub IsLastPointAt : List ℕ → ℕ → Type 0
IsLastPointAt octets at = EndsAtPoint (take at octets) × HasNoPoint (drop at octets)

-- the text is cut at its last point
abbrev pub IsCutAtLast : List ℕ → List ℕ → List ℕ → Type 0
IsCutAtLast octets before behind = (octets ≡ before ++ 46 ∷ behind) × HasNoPoint behind

-- The octets of a response as they go.
use Rattle.std.specs.Prelude.{◌≡◌, ◌++◌, ℕ, List, length}

-- so many octets are gone from the front of what was left
abbrev pub LosesFront : List ℕ → List ℕ → ℕ → Type 0
LosesFront old new n = (gone : List ℕ) × (length gone ≡ n) × (old ≡ gone ++ new)

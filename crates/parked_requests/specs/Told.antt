-- What is told of the jobs that a session has had in hand.
use Rattle.std.specs.Prelude.{ℕ, List, ◌∷◌, Option, None, Some}

-- what has become of a job
pub data Fate : Type 0 where
  -- it is whole, and has so many octets and pages
  Kept : (octets pages : ℕ) → Fate
  -- it doesn't come to its end
  Gone : Fate

-- what has been told by then, the last first, where that is known, and this
abbrev pub and_told : Fate → Option (List Fate) → Option (List Fate)
and_told fate None = None
and_told fate (Some told) = Some (fate ∷ told)

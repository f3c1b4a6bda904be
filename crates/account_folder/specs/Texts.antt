-- How far a text is that is written a piece at a time.
use Rattle.std.specs.Prelude.{◌≡◌, ◌++◌, ℕ, List, Option}
use Rattle.lpd_commands.specs.Ends.{Writes}

-- a text was written but for its rest
pub record IsOnItsWay (before now : Option (List ℕ)) (rest text : List ℕ) : Type 0 where
  pub written : List ℕ
  pub writes : Writes before now written
  pub whole : text ≡ written ++ rest

-- What a scratch has room for, and the order that it keeps.
use Rattle.std.specs.Prelude.{ℕ, List}

-- so many rows, of so many kinds, and the numbers of the finishing order that was found last
pub record Room : Type 0 where
  pub rows : ℕ
  pub kinds : ℕ
  pub order : List ℕ

-- What is kept of an order: of each row its number, its line, and where it stood.
use Rattle.std.specs.Prelude.{◌≡◌, ◌≢◌, ℕ, ◌<◌, List, AllPairs, map}
use Rattle.ordered_safety.specs.declared.kept.Kept.{Kept}

-- the numbers of an order that is kept
abbrev pub kept_numbers : List Kept → List ℕ
kept_numbers kept = map (λ row. row.number) kept

-- the first may stand before the second: of one sender and one queue it has the lower number, and otherwise another
pub record MayPrecede (a b : Kept) : Type 0 where
  pub apart : a.number ≢ b.number
  pub in_line : a.sender ≡ b.sender → a.queue ≡ b.queue → a.number < b.number

-- each line in the order of its numbers, and each number once
abbrev pub KeepsLines : List Kept → Type 0
KeepsLines kept = AllPairs MayPrecede kept

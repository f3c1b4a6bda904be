-- When claims are safe: an order exists in which each job can finish.
use Rattle.std.specs.Prelude.{◌≡◌, ◌==◌, ℕ, ◌+◌, ◌<◌, ◌&&◌, Bool, List, [], ◌∷◌, ◌++◌, IsTrue, map}
use Rattle.counts.specs.Amounts.{amount, Fits}
use Rattle.claims.specs.declared.row.Row.{Row}
use Rattle.claims.specs.Claims.{Claims, Pairwise}

-- what is free once the row gave back what it holds
abbrev pub freed : (ℕ → ℕ) → Row → ℕ → ℕ
freed free row kind = free kind + amount row.held kind

-- each can finish when its turn comes: it needs at most what is free then
abbrev pub CanFinish : (ℕ → ℕ) → List Row → Type 0
CanFinish free [] = Unit {0}
CanFinish free (x ∷ xs) = Fits x.need free × CanFinish (freed free x) xs

-- of one sender and one queue
abbrev pub same_line : Row → Row → Bool
same_line a b = (a.sender == b.sender) && (a.queue == b.queue)

-- of one sender and one queue the lower number stands first
abbrev pub KeepsLine : Row → Row → Type 0
KeepsLine a b = IsTrue (same_line a b) → a.number < b.number

-- the order has each row once: its first is one of the rows, and its rest has the others
abbrev pub IsOrderOf : List Row → List Row → Type 0
IsOrderOf rows [] = rows ≡ []
IsOrderOf rows (x ∷ order) = (before : List Row) × (after : List Row) × (rows ≡ before ++ x ∷ after) × IsOrderOf (before ++ after) order

-- each row once, the sender's order kept, and each can finish in its turn
pub record IsFinishingOrder (free : ℕ → ℕ) (rows order : List Row) : Type 0 where
  pub each_once : IsOrderOf rows order
  pub in_line : Pairwise KeepsLine order
  pub fits : CanFinish free order

-- a finishing order of these rows exists
abbrev pub HasFinishingOrder : (ℕ → ℕ) → List Row → Type 0
HasFinishingOrder free rows = (order : List Row) × IsFinishingOrder free rows order

-- the numbers of the rows in a finishing order
abbrev pub AreFinishing : (ℕ → ℕ) → List Row → List ℕ → Type 0
AreFinishing free rows numbers = (order : List Row) × IsFinishingOrder free rows order × (map (λ row. row.number) order ≡ numbers)

-- a table is safe where a finishing order exists
abbrev pub IsSafe : Claims → Type 0
IsSafe t = HasFinishingOrder (amount t.free) t.rows

-- these numbers are those of the table's rows in a finishing order
abbrev pub FinishesBy : Claims → List ℕ → Type 0
FinishesBy t numbers = AreFinishing (amount t.free) t.rows numbers

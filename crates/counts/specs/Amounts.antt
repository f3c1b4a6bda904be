-- Amounts of each kind of resource: a list with one number a kind.
use Rattle.std.specs.Prelude.{ℕ, ◌+◌, ◌-◌, ◌≤◌, List, [], ◌∷◌, slice_index}

-- how much there is of a kind, and nothing of a kind that the list lacks
abbrev pub amount : List ℕ → ℕ → ℕ
amount xs kind = slice_index xs kind

-- of each kind no more is needed than is free
abbrev pub Fits : List ℕ → (ℕ → ℕ) → Type 0
Fits need free = (kind : ℕ) → amount need kind ≤ free kind

-- both together, kind by kind
abbrev pub sum_of : List ℕ → List ℕ → List ℕ
sum_of [] ys = []
sum_of (x ∷ xs) [] = x ∷ xs
sum_of (x ∷ xs) (y ∷ ys) = (x + y) ∷ sum_of xs ys

-- the first without the second, kind by kind
abbrev pub rest_of : List ℕ → List ℕ → List ℕ
rest_of [] ys = []
rest_of (x ∷ xs) [] = x ∷ xs
rest_of (x ∷ xs) (y ∷ ys) = (x - y) ∷ rest_of xs ys

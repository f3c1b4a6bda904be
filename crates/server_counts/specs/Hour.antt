-- The latest of a list.
use Rattle.std.specs.Prelude.{ℕ, ◌-◌, List, drop, length}

-- the last N elements; all where there are fewer
abbrev pub latest : {X : Type 0} → ℕ → List X → List X
latest n xs = drop (length xs - n) xs

-- On which line of a text something stands.
use Rattle.std.specs.Prelude.{◌+◌, ◌==◌, ℕ, List, count_by}

-- the line of what stands behind these octets, from 1: one more for each line that ends among them
abbrev pub line_behind : List ℕ → ℕ
line_behind before = count_by (λ octet. octet == 10) before + 1

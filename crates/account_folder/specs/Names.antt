-- How the files of a folder are named.
use Rattle.std.specs.Prelude.{◌≡◌, ◌<◌, ◌≤◌, ◌-◌, ◌^◌, ◌++◌, ◌∷◌, ◌==◌, if◌then◌else◌, [], ℕ, List, codes, length, replicate}
use Rattle.std.specs.Fmt.{decimal}

-- the digits of a number behind as many zeros as make ten of them
abbrev pub ten_digits : ℕ → List ℕ
ten_digits n = replicate (10 - length (decimal n)) 48 ++ decimal n

-- the name of the file of a number
abbrev pub written : ℕ → List ℕ
written n = codes "segment-" ++ ten_digits n

-- a file may have this number: it is 1 or more, and has ten digits at most
abbrev pub IsNumber : ℕ → Type 0
IsNumber n = (0 < n) × (length (decimal n) ≤ 10)

-- digits are those of no number of a file
abbrev pub AreOfNone : List ℕ → Type 0
AreOfNone digits = (n : ℕ) → n < 2 ^ 64 → IsNumber n → digits ≡ ten_digits n → ⊥

-- octets are no name of a file
abbrev pub IsNoName : List ℕ → Type 0
IsNoName octets = (n : ℕ) → n < 2 ^ 64 → IsNumber n → octets ≡ written n → ⊥

-- digits without the zeros that they begin with
abbrev pub without_zeros : List ℕ → List ℕ
without_zeros [] = []
without_zeros (d ∷ rest) = if d == 48 then without_zeros rest else d ∷ rest

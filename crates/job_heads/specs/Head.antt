-- The head of a kept job: what it is, its version, and who sent it.
use Rattle.std.specs.Prelude.{ℕ, List, [], ◌∷◌, ◌++◌}
use Rattle.std.specs.Int.{to_be_bytes, w32}
use Rattle.hex.specs.Hex.{encode_lower}

-- the octets of `hurgwaye `
abbrev pub name : List ℕ
name = 104 ∷ 117 ∷ 114 ∷ 103 ∷ 119 ∷ 97 ∷ 121 ∷ 101 ∷ 32 ∷ []

-- and of `1 `, which is the version
abbrev pub mark : List ℕ
mark = name ++ 49 ∷ 32 ∷ []

-- the head of a job of this sender: eight hexadecimal digits and the end of the line behind these
abbrev pub head : ℕ → List ℕ
head sender = mark ++ (encode_lower (to_be_bytes w32 sender) ++ 10 ∷ [])

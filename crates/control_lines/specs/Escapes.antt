-- Octets of strangers as shown text.
use Rattle.std.specs.Prelude.{ℕ, Bool, List, [], ◌∷◌, ◌==◌, ◌&&◌, not, nat_le, if◌then◌else◌, codes}
use Rattle.std.specs.Str.{bytes_eq}
use Rattle.percent_encoding.specs.Percent.{percent_encode, percent_decode}
use Rattle.control_lines.specs.declared.escaped.TheConstants.{HIDDEN}

-- an octet that a shown word may have
abbrev pub is_shown : ℕ → Bool
is_shown b = nat_le 33 b && nat_le b 126

-- an octet that is shown as it is
abbrev pub is_plain : ℕ → Bool
is_plain b = is_shown b && not (b == 37)

-- octets as one word: those that aren't plain are `%` and two upper-case hexadecimal digits
abbrev pub escaped : List ℕ → List ℕ
escaped [] = codes "-"
escaped (b ∷ bs) = if bytes_eq (b ∷ bs) (codes "-") then codes "%2D" else percent_encode HIDDEN (b ∷ bs)

-- the octets that a word shows
abbrev pub unescaped : List ℕ → List ℕ
unescaped word = if bytes_eq word (codes "-") then [] else percent_decode word

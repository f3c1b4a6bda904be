-- Pieces of lines.
use Rattle.std.specs.Prelude.{ℕ, List, ◌==◌, if◌then◌else◌, map, encode_utf8_all}
use Rattle.std.specs.Str.{chars}

-- a space for a line feed
abbrev pub unbroken : ℕ → ℕ
unbroken c = if c == 10 then 32 else c

-- a text with a space for each line feed
abbrev pub one_line : List ℕ → List ℕ
one_line text = encode_utf8_all (map unbroken (chars text))

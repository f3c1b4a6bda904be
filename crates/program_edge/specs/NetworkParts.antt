-- The parts of a network's text.
use Rattle.std.specs.Prelude.{◌≡◌, ◌==◌, ◌≤◌, ◌<◌, ℕ, Bool, List, Option, Some, None, length}
use Rattle.std.specs.Borrow.{Bor}
use Rattle.std.specs.List.{after_first, position_or_len}
use Rattle.program_edge.specs.Numerals.{IsPlainNumber}

abbrev pub is_slash : ℕ → Bool
is_slash octet = octet == 47

-- what stands behind the first slash of a text, if it has one
abbrev pub StandsBehind : List ℕ → Option (Bor (List ℕ)) → Type 0
StandsBehind text None = position_or_len is_slash text ≡ length text
StandsBehind text (Some rest) =
    (position_or_len is_slash text < length text) × (rest.now ≡ after_first is_slash text)

-- a text is a number of 0 to 32, in digits alone, with no zero in front
abbrev pub IsBitsText : List ℕ → ℕ → Type 0
IsBitsText text bits = IsPlainNumber text bits × (bits ≤ 32)

-- such a number, and 32 without a text
abbrev pub IsBits : Option (Bor (List ℕ)) → ℕ → Type 0
IsBits None bits = bits ≡ 32
IsBits (Some text) bits = IsBitsText text.now bits

-- Numbers for people.
use Rattle.std.specs.Prelude.{ℕ, ◌*◌, ◌-◌, ◌/◌, ◌%◌, ◌^◌, List, ◌++◌, codes, if◌then◌else◌, max, min, nat_lt}
use Rattle.std.specs.Fmt.{decimal}
use Rattle.standings.specs.Words.{three_digits}

-- its thousands apart
abbrev pub grouped_words : ℕ → List ℕ
grouped_words n =
    if nat_lt n 1000 then decimal (n % 1000) else if nat_lt n 1000000 then decimal (n / 1000 % 1000) ++ (codes "," ++ three_digits (n % 1000)) else decimal (n / 1000000) ++ (codes "," ++ (three_digits (n / 1000 % 1000) ++ (codes "," ++ three_digits (n % 1000))))

-- N.T of a unit, of so many parts of 1,024 of it
abbrev pub tenths_of : ℕ → ℕ
tenths_of parts = min (parts * 10) (2 ^ 64 - 1) / 1024

abbrev pub unit_words : ℕ → List ℕ → List ℕ
unit_words parts unit = decimal (tenths_of parts / 10) ++ (codes "." ++ (decimal (tenths_of parts % 10) ++ (codes " " ++ unit)))

-- octets in B, KiB, MiB or GiB
abbrev pub size_words : ℕ → List ℕ
size_words n =
    if nat_lt n 1024 then decimal n ++ codes " B" else if nat_lt n 1048576 then unit_words n (codes "KiB") else if nat_lt n 1073741824 then unit_words (n / 1024) (codes "MiB") else unit_words (n / 1048576) (codes "GiB")

abbrev pub thousandths_of : (part whole : ℕ) → ℕ
thousandths_of part whole = min (part * 1000) (2 ^ 64 - 1) / max whole 1

-- a part of a whole in per cent
abbrev pub share_words : (part whole : ℕ) → List ℕ
share_words part whole = decimal (thousandths_of part whole / 10) ++ (codes "." ++ decimal (thousandths_of part whole % 10))

-- seconds in the two greatest units that fit: days with hours, hours with minutes, minutes, or seconds
abbrev pub span_words : ℕ → List ℕ
span_words s =
    if nat_lt s 60 then decimal s ++ codes " s" else if nat_lt s 3600 then decimal (s / 60) ++ codes " min" else if nat_lt s 86400 then decimal (s / 3600) ++ (codes " h " ++ (decimal (s / 60 % 60) ++ codes " min")) else decimal (s / 86400) ++ (codes " d " ++ (decimal (s / 3600 % 24) ++ codes " h"))

-- What the text of a word is worth, by what clap reads of it.
use Rattle.std.specs.Prelude.{◌≡◌, ◌<◌, ◌^◌, ℕ, Bool, List, Option, Some, None, codes, false, true}
use Rattle.std.specs.Prelude.{unwrap_or}
use Rattle.std.specs.Net.Grammar.{IsIpv4Text}
use Rattle.std.specs.declared.net.ipv4_addr.Ipv4Addr.{Ipv4Addr}
use Rattle.std.specs.Str.Parse.{IsNumeral, digits_value, without_leading_plus}
use Rattle.clap.specs.Words.{Row, Text, first_of, one_of}

-- a word that was read is this number of at most `bits` bits, in decimal digits
abbrev pub IsNumberOf : ℕ → List Row → Text → ℕ → Type 0
IsNumberOf bits rows id number =
    (text : Text) × (one_of id rows ≡ Some text) × IsNumeral 10 (without_leading_plus text)
    × (number ≡ digits_value 10 (without_leading_plus text)) × (number < 2 ^ bits)

-- a word that was read is this number of at most 65,535
abbrev pub IsNumber : List Row → Text → ℕ → Type 0
IsNumber rows id number = IsNumberOf 16 rows id number

-- there is no word, or it is no such number
abbrev pub HasNoNumber : List Row → Text → Type 0
HasNoNumber rows id = (number : ℕ) → IsNumber rows id number → ⊥

-- an option's number of at most `bits` bits, if the option is there
abbrev pub IsGiven : ℕ → List Row → Text → Option ℕ → Type 0
IsGiven bits rows id None = one_of id rows ≡ None
IsGiven bits rows id (Some number) = IsNumberOf bits rows id number

-- an option's number, and this other one where the option isn't there
abbrev pub IsGivenOr : ℕ → List Row → Text → ℕ → Type 0
IsGivenOr other rows id number =
    (given : Option ℕ) × IsGiven 32 rows id given × (number ≡ unwrap_or given other)

-- an option's number above 0, if the option is there
abbrev pub IsLimit : List Row → Text → Option ℕ → Type 0
IsLimit rows id None = one_of id rows ≡ None
IsLimit rows id (Some limit) = IsNumberOf 64 rows id limit × (0 < limit)

-- an option without a value is there, or isn't
abbrev pub IsFlag : List Row → Text → Bool → Type 0
IsFlag rows id is =
    (one_of id rows ≡ None → is ≡ false) × (one_of id rows ≡ Some (codes "true") → is ≡ true)
    × (one_of id rows ≡ Some (codes "false") → is ≡ false)

-- the address that an option names: 127.0.0.1 where it isn't there
abbrev pub IsAddress : Text → List Row → Ipv4Addr → Type 0
IsAddress id rows address = IsIpv4Text (unwrap_or (first_of id rows) (codes "127.0.0.1")) address

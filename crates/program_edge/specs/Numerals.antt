-- Numbers in plain digits.
use Rattle.std.specs.Prelude.{◌≡◌, ◌<◌, ◌^◌, ℕ, List}
use Rattle.std.specs.Fmt.{decimal}

-- a text is what is written of this number of at most 32 bits
abbrev pub IsPlainNumber : List ℕ → ℕ → Type 0
IsPlainNumber text number = (text ≡ decimal number) × (number < 2 ^ 32)

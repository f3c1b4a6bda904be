-- The digits that octets begin with.
use Rattle.std.proofs.Common.{◌≡◌, ◌≤◌, ◌<◌, ◌^◌, ◌+◌, ◌*◌, ℕ, Bool, true, false, List, [], ◌∷◌, None, cond, refl, subst, sym, length, take, get_or, arith}
use Rattle.std.specs.Char.{IsAsciiDigit, digit_value, is_ascii_digit}
use Rattle.std.specs.List.{All, take_while}
use Rattle.std.specs.Str.Parse.{digits_value}
use Rattle.std.proofs.lemmas.Bool.{and_right, cond-false, le-ltb}
use Rattle.std.proofs.lemmas.Bool.Decides.{nat_tests}
use Rattle.std.proofs.lemmas.Int.Digits.{digits_value_more}
use Rattle.std.proofs.lemmas.List.Elements.{All-cons, All-nil}
use Rattle.std.proofs.lemmas.List.Sums.{take_while-cons}
use Rattle.std.proofs.lemmas.Str.Parse.{digits_value-take-le}
use Rattle.sink_devices.specs.Names.{value_written}

is_digit : (octet : ℕ) → is_ascii_digit octet ≡ true → IsAsciiDigit octet
is_digit octet h = grind (arith, nat_tests)

-- they are digits
pub leading_are_digits : (octets : List ℕ) → All IsAsciiDigit (take_while is_ascii_digit octets)
leading_are_digits [] = All-nil IsAsciiDigit
leading_are_digits (octet ∷ octets) =
    subst (All IsAsciiDigit) (sym (take_while-cons is_ascii_digit octet octets)) (by (leading_are_digits octets) (is_ascii_digit octet) refl)
  where
    by : All IsAsciiDigit (take_while is_ascii_digit octets) → (b : Bool) → is_ascii_digit octet ≡ b → All IsAsciiDigit (cond b (octet ∷ take_while is_ascii_digit octets) [])
    by rest true h = All-cons IsAsciiDigit octet (take_while is_ascii_digit octets) (is_digit octet h) rest
    by rest false h = All-nil IsAsciiDigit

-- where the first digits write too great a number, all do
pub too_great : (digits : List ℕ) (i : ℕ) → i < length digits → 2 ^ 64 ≤ digits_value 10 (take i digits) * 10 + digit_value (get_or digits i 0) → value_written digits ≡ None
too_great digits i within great =
    cond-false _ _ _ (and_right _ _ (le-ltb (digits_value 10 digits) (2 ^ 64) (omega (arith, digits_value_more 10 digits i within, digits_value-take-le 10 digits (i + 1) (omega arith)))))

-- A number as it is written, and what is read of it.
use Rattle.std.proofs.Common.{◌≡◌, ◌<◌, ◌^◌, ℕ, List, [], ◌∷◌, true, false, inl, inr, refl, sym, ◌∙◌, ap, subst, arith, lit<, length, get_or}
use Rattle.std.specs.Prelude.{Result, Ok, Err, IsUtf8}
use Rattle.std.specs.Fmt.{decimal}
use Rattle.std.specs.Str.Parse.{AllDigits, IsNumeral, ParsesUnsigned, digits_value, without_leading_plus}
use Rattle.std.proofs.lemmas.Bool.{cases_eq}
use Rattle.std.proofs.lemmas.Bool.Decides.{nat_tests}
use Rattle.std.proofs.lemmas.Fmt.{IsAscii-decimal, decimal-digits_value, decimal_digit, first_decimal, parse-decimal}
use Rattle.std.proofs.lemmas.Str.{IsUtf8-from_ascii}
use Rattle.std.proofs.lemmas.Str.Parse.{IsNumeralModel, numerals_by_value, tells_digits, without_leading_plus_none}
use Rattle.decimals.specs.Canonical.{is_canonical}

canonical_above : (s : List ℕ) → 48 < get_or s 0 0 → is_canonical s ≡ true
canonical_above [] h = refl
canonical_above (d ∷ ds) h = grind (arith, nat_tests)

-- a number is written without leading zeros
pub canonical_decimal : (n : ℕ) → n < 2 ^ 64 → is_canonical (decimal n) ≡ true
canonical_decimal n h =
    elim (cases_eq n 0) [
      | inl e ↦ subst (λ (m : ℕ). is_canonical (decimal m) ≡ true) (sym e) (ap is_canonical (decimal_digit 0 (lit< tt)))
      | inr e ↦ canonical_above (decimal n) (first_decimal n (omega arith) h)
    ]

pub not_canonical : (s : List ℕ) → is_canonical s ≡ false → (n : ℕ) → n < 2 ^ 64 → s ≡ decimal n → ⊥
not_canonical s wrong n h e = let yes = canonical_decimal n h in cc

pub not_text : (s : List ℕ) → (IsUtf8 s → ⊥) → (n : ℕ) → n < 2 ^ 64 → s ≡ decimal n → ⊥
not_text s none n h e = none (rw e (IsUtf8-from_ascii (decimal n) (IsAscii-decimal n h)))

pub not_read : {E : Type 0} (s : List ℕ) (why : E) → (r : Result ℕ E) → r ≡ Err why → ParsesUnsigned 64 10 s r → (n : ℕ) → n < 2 ^ 64 → s ≡ decimal n → ⊥
not_read s why r is h n small e = let ok : r ≡ Ok n = parse-decimal 64 n s r small small e h in cc

no_plus : (s : List ℕ) → is_canonical s ≡ true → get_or s 0 0 ≡ 43 → ⊥
no_plus [] h e = absurd (omega arith)
no_plus (d ∷ ds) h e = grind (arith, nat_tests)

alone : (s : List ℕ) → is_canonical s ≡ true → get_or s 0 0 ≡ 48 → length s ≡ 1
alone [] h e = absurd (omega arith)
alone (d ∷ []) h e = refl
alone (d ∷ e ∷ ds) h first = grind (arith, nat_tests)

own : IsNumeralModel (AllDigits 10) (digits_value 10)
own = numerals_by_value (AllDigits 10) tells_digits

pub read : {E : Type 0} (s : List ℕ) (n : ℕ) (r : Result ℕ E) → r ≡ Ok n → is_canonical s ≡ true → ParsesUnsigned 64 10 s r → s ≡ decimal n
read {E} s n r is canonical p =
    let h = subst (λ (x : Result ℕ E). ParsesUnsigned 64 10 s x) is p in
    let same : without_leading_plus s ≡ s = without_leading_plus_none s (no_plus s canonical) in
    let numeral : IsNumeral 10 s = subst (λ (t : List ℕ). IsNumeral 10 t) same h.0.0 in
    let small : digits_value 10 s < 2 ^ 64 = subst (λ (t : List ℕ). digits_value 10 t < 2 ^ 64) same h.0.1 in
    let value : n ≡ digits_value 10 s = h.1 ∙ ap (digits_value 10) same in
    sym (ap decimal value ∙ decimal-digits_value own s numeral.1 numeral.0 (alone s canonical) (omega arith))

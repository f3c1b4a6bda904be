-- Numbers as decimal digits, and back.
use Rattle.std.proofs.Common.{◌≡◌, ◌<◌, ◌≤◌, ℕ, true, List, [], ◌∷◌, ◌++◌, ◌+◌, ◌*◌, ◌-◌, ◌/◌, ◌%◌, ◌^◌, length, refl, ◌∙◌, arith, lit<}
use Rattle.std.proofs.lemmas.Bool.{and_from, le-leb}
use Rattle.std.specs.List.{list_all}
use Rattle.std.specs.Fmt.{decimal}
use Rattle.std.proofs.lemmas.Fmt.{decimal_by_steps, decimal_nonempty, length-decimal-le}
use Rattle.std.proofs.lemmas.Bool.Decides.{nat_tests}
use Rattle.std.proofs.lemmas.List.Folds.{list_all-append}
use Rattle.std.proofs.lemmas.List.Sums.{fold-append}
use Rattle.lpd_values.specs.Kinds.{is_digit}
use Rattle.lpd_values.specs.Digits.{is_count, count_of}

-- the digits of a number, and the number that they are
pub digit_true : (n : ℕ) → n < 10 → is_digit (48 + n) ≡ true
digit_true n h = grind (arith, nat_tests)

abbrev pub IsDecimal : ℕ → List ℕ → Type 0
IsDecimal n ds = (list_all is_digit ds ≡ true) × (count_of ds ≡ n)

pub decimal_is : (n : ℕ) → n < 2 ^ 64 → IsDecimal n (decimal n)
decimal_is = decimal_by_steps IsDecimal one more
  where
    one : (n : ℕ) → n < 10 → IsDecimal n ((48 + n) ∷ [])
    one n h = (and_from _ _ (digit_true n h) refl, omega arith)

    more : (n : ℕ) (ds : List ℕ) → 10 ≤ n → IsDecimal (n / 10) ds → IsDecimal n (ds ++ ((48 + n % 10) ∷ []))
    more n ds h p =
        let below : n % 10 < 10 = omega arith in
        let step : count_of (ds ++ ((48 + n % 10) ∷ [])) ≡ 10 * count_of ds + (48 + n % 10 - 48) = fold-append _ 0 ds ((48 + n % 10) ∷ []) in
        let value = p.1 in
        (list_all-append is_digit ds _ ∙ and_from _ _ p.0 (and_from _ _ (digit_true (n % 10) below) refl), step ∙ omega arith)

pub fits : (n : ℕ) → n < 10 ^ 19 → n < 2 ^ 64
fits n h = let p : 10 ^ 19 < 2 ^ 64 = lit< tt in omega arith

pub decimal_count : (n : ℕ) → n < 10 ^ 19 → is_count (decimal n) ≡ true
decimal_count n h =
    let some = decimal_nonempty n (fits n h) in
    let few = length-decimal-le 19 n (lit< tt) h (fits n h) in
    and_from _ _ (and_from _ _ (le-leb 1 (length (decimal n)) (omega arith)) (le-leb (length (decimal n)) 19 few)) (decimal_is n (fits n h)).0

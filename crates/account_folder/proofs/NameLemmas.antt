-- Ten digits of a number, and the zeros that they begin with.
use Rattle.std.proofs.Common.{◌≡◌, ◌==◌, ◌<◌, ◌≤◌, ◌+◌, ◌-◌, ◌^◌, ◌++◌, ◌∙◌, ℕ, zero, suc, Option, Some, None, MatchOption, Bool, true, false, List, [], ◌∷◌, get_or, length, replicate, refl, sym, ap, subst, arith}
use native.Mathlib.Numerals.{unary_clauses}
use Rattle.std.specs.Fmt.{char_count, decimal, format_spec, padded_integral, styled_decimal}
use Rattle.std.proofs.lemmas.Fmt.{decimal_digit, first_decimal}
use Rattle.std.proofs.lemmas.List.{append-nil, length-append, length-replicate}
use Rattle.std.proofs.lemmas.Grind.{common_steps}
use Rattle.account_folder.specs.Names.{AreOfNone, IsNumber, ten_digits, without_zeros}

-- some zeros stand before what is left
zeros_before : (xs : List ℕ) → (k : ℕ) × (xs ≡ replicate k 48 ++ without_zeros xs)
zeros_before [] = (0, refl)
zeros_before (x ∷ xs) = by (zeros_before xs) (x == 48) refl
  where
    by : (k : ℕ) × (xs ≡ replicate k 48 ++ without_zeros xs) → (b : Bool) → (x == 48) ≡ b → (k : ℕ) × ((x ∷ xs) ≡ replicate k 48 ++ without_zeros (x ∷ xs))
    by rest true is =
        let same : x ≡ 48 = grind (arith, common_steps, is) in
        (suc (rest.0), rw is (rw same (ap (λ (l : List ℕ). 48 ∷ l) (rest.1))))
    by rest false is = (0, rw is refl)

-- zeros before are left out
zeros_go : (k : ℕ) (ys : List ℕ) → without_zeros (replicate k 48 ++ ys) ≡ without_zeros ys
zeros_go zero ys = refl
zeros_go (suc k) ys = zeros_go k ys

-- what is left begins with no zero
no_zero_left : (xs : List ℕ) → without_zeros xs ≡ 48 ∷ [] → ⊥
no_zero_left [] h = cc
no_zero_left (x ∷ xs) h = by (no_zero_left xs) (x == 48) refl h
  where
    by : (without_zeros xs ≡ 48 ∷ [] → ⊥) → (b : Bool) → (x == 48) ≡ b → without_zeros (x ∷ xs) ≡ 48 ∷ [] → ⊥
    by rest true is h = rest (rw is at h)
    by rest false is h =
        let same : x ∷ xs ≡ 48 ∷ [] = rw is at h in
        let head : x ≡ 48 = ap (λ (l : List ℕ). get_or l 0 0) same in
        grind (arith, common_steps, is, head)

-- a number from 1 on begins with no zero
no_zero_first : (xs : List ℕ) → 48 < get_or xs 0 0 → without_zeros xs ≡ xs
no_zero_first [] h = refl
no_zero_first (x ∷ xs) h = by (x == 48) refl
  where
    by : (b : Bool) → (x == 48) ≡ b → without_zeros (x ∷ xs) ≡ x ∷ xs
    by true is = absurd (grind (arith, common_steps, is, h))
    by false is = rw is refl

-- ten digits whose zeros leave the digits of a number are those of the number
pub of_number : (digits : List ℕ) (n : ℕ) → length digits ≡ 10 → without_zeros digits ≡ decimal n → (digits ≡ ten_digits n) × IsNumber n
of_number digits n ten is = (same, (positive n is, fits))
  where
    parts : (k : ℕ) × (digits ≡ replicate k 48 ++ decimal n)
    parts = subst (λ (l : List ℕ). (k : ℕ) × (digits ≡ replicate k 48 ++ l)) is (zeros_before digits)

    counted : parts.0 + length (decimal n) ≡ 10
    counted = ap (λ (m : ℕ). m + length (decimal n)) (sym (length-replicate (parts.0) 48)) ∙ sym (length-append (replicate (parts.0) 48) (decimal n)) ∙ ap length (sym (parts.1)) ∙ ten

    fits : length (decimal n) ≤ 10
    fits = omega (arith, counted)

    zeros : parts.0 ≡ 10 - length (decimal n)
    zeros = omega (arith, counted)

    same : digits ≡ ten_digits n
    same = parts.1 ∙ ap (λ (k : ℕ). replicate k 48 ++ decimal n) zeros

    positive : (m : ℕ) → without_zeros digits ≡ decimal m → 0 < m
    positive zero h = absurd (no_zero_left digits (h ∙ decimal_digit 0 (omega arith)))
    positive (suc m) h = omega arith

-- and where they leave those of no number, they are those of none
pub of_none : (digits : List ℕ) → ((n : ℕ) → n < 2 ^ 64 → without_zeros digits ≡ decimal n → ⊥) → AreOfNone digits
of_none digits none n small is same =
    none n small (ap without_zeros same ∙ zeros_go (10 - length (decimal n)) (decimal n) ∙ no_zero_first (decimal n) (first_decimal n (is.0) small))

-- what is read of ten digits
pub told : (o : Option ℕ) (digits rest : List ℕ) → length digits ≡ 10 → rest ≡ without_zeros digits → MatchOption o ((n : ℕ) → n < 2 ^ 64 → rest ≡ decimal n → ⊥) (λ n. rest ≡ decimal n) → MatchOption o (AreOfNone digits) (λ n. (digits ≡ ten_digits n) × IsNumber n)
told None digits rest ten is none = of_none digits (λ n small h. none n small (is ∙ h))
told (Some n) digits rest ten is same = of_number digits n ten (sym is ∙ same)

-- what `{:010}` writes
pub padded : (n : ℕ) → styled_decimal (format_spec 32 0 4 10 18446744073709551615) n ≡ ten_digits n
unfolding padded_integral char_count
padded n = simp unary_clauses (ap (λ (l : List ℕ). replicate (10 - length (decimal n)) 48 ++ l) (append-nil (decimal n)))

-- Amounts of one kind in sums and rests, and that they decide the whole.
use Rattle.std.proofs.Common.{◌≡◌, ℕ, zero, suc, ◌+◌, ◌-◌, ◌<◌, List, [], ◌∷◌, length, refl, ap, sym, ◌∙◌, arith}
use Rattle.std.proofs.lemmas.List.{ext_get_or}
use Rattle.counts.specs.Amounts.{amount, sum_of, rest_of}

pub amount-sum_of : (xs ys : List ℕ) (kind : ℕ) → length ys ≡ length xs → amount (sum_of xs ys) kind ≡ amount xs kind + amount ys kind
amount-sum_of [] [] kind e = refl
amount-sum_of [] (y ∷ ys) kind e = absurd (omega arith)
amount-sum_of (x ∷ xs) [] kind e = absurd (omega arith)
amount-sum_of (x ∷ xs) (y ∷ ys) zero e = refl
amount-sum_of (x ∷ xs) (y ∷ ys) (suc kind) e = amount-sum_of xs ys kind (omega arith)

pub length-sum_of : (xs ys : List ℕ) → length (sum_of xs ys) ≡ length xs
length-sum_of [] ys = refl
length-sum_of (x ∷ xs) [] = refl
length-sum_of (x ∷ xs) (y ∷ ys) = ap suc (length-sum_of xs ys)

pub amount-rest_of : (xs ys : List ℕ) (kind : ℕ) → length ys ≡ length xs → amount (rest_of xs ys) kind ≡ amount xs kind - amount ys kind
amount-rest_of [] [] kind e = refl
amount-rest_of [] (y ∷ ys) kind e = absurd (omega arith)
amount-rest_of (x ∷ xs) [] kind e = absurd (omega arith)
amount-rest_of (x ∷ xs) (y ∷ ys) zero e = refl
amount-rest_of (x ∷ xs) (y ∷ ys) (suc kind) e = amount-rest_of xs ys kind (omega arith)

pub length-rest_of : (xs ys : List ℕ) → length (rest_of xs ys) ≡ length xs
length-rest_of [] ys = refl
length-rest_of (x ∷ xs) [] = refl
length-rest_of (x ∷ xs) (y ∷ ys) = ap suc (length-rest_of xs ys)

pub sum_of_each : (xs ys zs : List ℕ) → length zs ≡ length xs → length ys ≡ length xs → ((k : ℕ) → k < length ys → amount zs k ≡ amount xs k + amount ys k) → zs ≡ sum_of xs ys
sum_of_each xs ys zs n m each =
    ext_get_or 0 zs (sum_of xs ys) (let l = length-sum_of xs ys in omega arith) (λ k lt. each k (omega arith) ∙ sym (amount-sum_of xs ys k m))

pub rest_of_each : (xs ys zs : List ℕ) → length zs ≡ length xs → length ys ≡ length xs → ((k : ℕ) → k < length ys → amount zs k ≡ amount xs k - amount ys k) → zs ≡ rest_of xs ys
rest_of_each xs ys zs n m each =
    ext_get_or 0 zs (rest_of xs ys) (let l = length-rest_of xs ys in omega arith) (λ k lt. each k (omega arith) ∙ sym (amount-rest_of xs ys k m))

-- where there is some of a kind, there is that kind
pub within : (xs : List ℕ) (kind : ℕ) → 0 < amount xs kind → kind < length xs
within [] kind some = absurd (omega arith)
within (x ∷ xs) zero some = omega arith
within (x ∷ xs) (suc kind) some = let w = within xs kind some in omega arith

-- How many elements pass a test that looks at their places too.
use Rattle.std.proofs.Common.{◌≡◌, ◌<◌, ◌≤◌, ◌+◌, ℕ, Bool, true, false, List, [], ◌∷◌, ◌++◌, length, take, sym, ◌∙◌, ap, add_assoc, arith, slice_index_or}
use Rattle.std.proofs.lemmas.Grind.{common_steps}
use Rattle.std.proofs.lemmas.List.{take_more}
use Rattle.standings.specs.Printers.{count_at, one_if}

one_if-le : (b : Bool) → one_if b ≤ 1
one_if-le true = omega arith
one_if-le false = omega arith

push : {X : Type 0} (test : ℕ → X → Bool) (at : ℕ) (xs : List X) (x : X) → count_at test at (xs ++ x ∷ []) ≡ count_at test at xs + one_if (test (at + length xs) x)
push test at [] x = let e : at + 0 ≡ at = omega arith in let g : one_if (test at x) + 0 ≡ 0 + one_if (test at x) = omega arith in g ∙ sym (ap (λ n. 0 + one_if (test n x)) e)
push test at (y ∷ ys) x =
    let e : at + 1 + length ys ≡ at + length (y ∷ ys) = omega arith in
    ap (λ n. one_if (test at y) + n) (push test (at + 1) ys x ∙ ap (λ n. count_at test (at + 1) ys + one_if (test n x)) e)
    ∙ sym (add_assoc (one_if (test at y)) (count_at test (at + 1) ys) (one_if (test (at + length (y ∷ ys)) x)))

pub more : {X : Type 0} (test : ℕ → X → Bool) (xs : List X) (i : ℕ) (d : X) → i < length xs → count_at test 0 (take (i + 1) xs) ≡ count_at test 0 (take i xs) + one_if (test i (slice_index_or xs i d))
more {X} test xs i d h =
    let n : 0 + length (take i xs) ≡ i = grind (arith, common_steps) in
    ap (count_at test 0) (take_more xs i d h) ∙ (push test 0 (take i xs) (slice_index_or xs i d)
    ∙ ap (λ k. count_at test 0 (take i xs) + one_if (test k (slice_index_or xs i d))) n)

-- a loop's step: one element more was looked at
pub step : {X : Type 0} (test : ℕ → X → Bool) (xs : List X) (i : ℕ) (d : X) (count one : ℕ) → i < length xs → count ≡ count_at test 0 (take i xs) → one ≡ one_if (test i (slice_index_or xs i d)) → count + one ≡ count_at test 0 (take (i + 1) xs)
step {X} test xs i d count one h p q =
    ap (λ n. n + one) p ∙ (ap (λ n. count_at test 0 (take i xs) + n) q ∙ sym (more test xs i d h))

pub few : (b : Bool) (i count one : ℕ) → count ≤ i → one ≡ one_if b → count + one ≤ i + 1
few b i count one h e = omega (arith, e, h, one_if-le b)

-- Texts of elements by their places, one element after another.
use Rattle.std.proofs.Common.{◌≡◌, ◌<◌, ◌+◌, ℕ, List, [], ◌∷◌, ◌++◌, length, take, sym, ◌∙◌, ap, append_assoc, arith, slice_index_or}
use Rattle.std.proofs.lemmas.Grind.{common_steps}
use Rattle.std.proofs.lemmas.List.{append-nil, take_more}
use Rattle.status_lines.specs.Status.{placed}

pub placed-push : {X : Type 0} (text : ℕ → X → List ℕ) (at : ℕ) (xs : List X) (x : X) → placed text at (xs ++ x ∷ []) ≡ placed text at xs ++ text (at + length xs) x
placed-push text at [] x = let e : at + 0 ≡ at = omega arith in append-nil (text at x) ∙ sym (ap (λ (n : ℕ). text n x) e)
placed-push text at (y ∷ ys) x =
    let e : at + 1 + length ys ≡ at + length (y ∷ ys) = omega arith in
    ap (λ (t : List ℕ). text at y ++ t) (placed-push text (at + 1) ys x ∙ ap (λ (n : ℕ). placed text (at + 1) ys ++ text n x) e)
    ∙ sym (append_assoc (text at y) (placed text (at + 1) ys) (text (at + length (y ∷ ys)) x))

-- one element more
pub placed-more : {X : Type 0} (text : ℕ → X → List ℕ) (xs : List X) (i : ℕ) (d : X) → i < length xs → placed text 0 (take (i + 1) xs) ≡ placed text 0 (take i xs) ++ text i (slice_index_or xs i d)
placed-more {X} text xs i d h =
    let n : 0 + length (take i xs) ≡ i = grind (arith, common_steps) in
    ap (placed text 0) (take_more xs i d h) ∙ (placed-push text 0 (take i xs) (slice_index_or xs i d)
    ∙ ap (λ (k : ℕ). placed text 0 (take i xs) ++ text k (slice_index_or xs i d)) n)

-- a loop's step: the text of one element more was put at the end
pub step : {X : Type 0} (text : ℕ → X → List ℕ) (xs : List X) (i : ℕ) (x : X) (base before after : List ℕ) → i < length xs → x ≡ slice_index_or xs i x → before ≡ base ++ placed text 0 (take i xs) → after ≡ before ++ text i x → after ≡ base ++ placed text 0 (take (i + 1) xs)
step {X} text xs i x base before after within is p q =
    let more : placed text 0 (take (i + 1) xs) ≡ placed text 0 (take i xs) ++ text i x =
    placed-more text xs i x within ∙ ap (λ (y : X). placed text 0 (take i xs) ++ text i y) (sym is) in
    q ∙ (ap (λ (t : List ℕ). t ++ text i x) p ∙ (append_assoc base (placed text 0 (take i xs)) (text i x) ∙ ap (λ (t : List ℕ). base ++ t) (sym more)))

-- the same for the element at its place
pub step_at : {X : Type 0} (text : ℕ → X → List ℕ) (xs : List X) (i : ℕ) (d : X) (base before after : List ℕ) → i < length xs → before ≡ base ++ placed text 0 (take i xs) → after ≡ before ++ text i (slice_index_or xs i d) → after ≡ base ++ placed text 0 (take (i + 1) xs)
step_at {X} text xs i d base before after within p q =
    q ∙ (ap (λ (t : List ℕ). t ++ text i (slice_index_or xs i d)) p
    ∙ (append_assoc base (placed text 0 (take i xs)) (text i (slice_index_or xs i d)) ∙ ap (λ (t : List ℕ). base ++ t) (sym (placed-more text xs i d within))))

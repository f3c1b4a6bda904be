-- Counts of lines, with one line more.
use Rattle.std.proofs.Common.{◌≡◌, ◌+◌, ℕ, Bool, true, false, List, ◌∷◌, sym, ◌∙◌, ap, arith}
use Rattle.std.specs.Prelude.{cond, count_by, if◌then◌else◌, min, sum_by}
use Rattle.std.proofs.lemmas.List.Sums.{sum_by-cons}
use Rattle.segment_text.specs.Items.{Item}

one : (b : Bool) (n : ℕ) → n + (if b then 1 else 0) ≡ cond b 1 0 + n
one true n = omega arith
one false n = omega arith

pub one_more : (test : Item → Bool) (i : Item) (is : List Item) (n r : ℕ) (b : Bool) → n ≡ count_by test is → b ≡ test i → r ≡ n + (if b then 1 else 0) → r ≡ count_by test (i ∷ is)
one_more test i is n r b en eb er =
    er
    ∙ (one b n
    ∙ (ap (λ (x : Bool). cond x 1 0 + n) eb
    ∙ (ap (λ (m : ℕ). cond (test i) 1 0 + m) en ∙ sym (sum_by-cons (λ (x : Item). cond (test x) 1 0) i is))))

-- a sum up to a most
capped : (m s k n r : ℕ) → n ≡ min s m → r ≡ min (n + k) m → r ≡ min (k + s) m
capped m s k n r en er = omega (arith, en, er)

pub many_more : (m : ℕ) (count : Item → ℕ) (i : Item) (is : List Item) (n r k : ℕ) → n ≡ min (sum_by count is) m → k ≡ count i → r ≡ min (n + k) m → r ≡ min (sum_by count (i ∷ is)) m
many_more m count i is n r k en ek er =
    capped m (sum_by count is) k n r en er
    ∙ (ap (λ (x : ℕ). min (x + sum_by count is) m) ek ∙ ap (λ (x : ℕ). min x m) (sym (sum_by-cons count i is)))

-- Lists that end in a known element.
use Rattle.std.proofs.Common.{◌≡◌, ◌+◌, ℕ, zero, suc, List, [], ◌∷◌, length, map, ap, ◌∙◌, slice_index_or, slice_set, arith}
use Rattle.spool_history.specs.Acts.{at_last}

-- v sees the last element replaced
pub at_last-set : {A B : Type 0} (v : A → B) (f : B → B) (xs : List A) (i : ℕ) (x y : A) → length xs ≡ i + 1 → x ≡ slice_index_or xs i x → v y ≡ f (v x) → map v (slice_set xs i y) ≡ at_last f (map v xs)
at_last-set v f [] i x y size last seen = absurd (omega arith)
at_last-set v f (a ∷ []) zero x y size last seen = ap (λ b. b ∷ []) (seen ∙ ap (λ b. f (v b)) last)
at_last-set v f (a ∷ []) (suc i) x y size last seen = absurd (omega arith)
at_last-set v f (a ∷ b ∷ bs) zero x y size last seen = absurd (omega arith)
at_last-set v f (a ∷ b ∷ bs) (suc i) x y size last seen = ap (λ l. v a ∷ l) (at_last-set v f (b ∷ bs) i x y (omega arith) last seen)

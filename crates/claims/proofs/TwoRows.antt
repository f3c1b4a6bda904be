-- Two rows, and which of them may finish first.
use Rattle.std.proofs.Common.{◌≡◌, ℕ, ◌+◌, ◌⊎◌, inl, inr, List, [], ◌∷◌, ◌++◌, refl, subst}
use Rattle.claims.specs.declared.row.Row.{Row}
use Rattle.counts.specs.Amounts.{Fits}
use Rattle.claims.specs.Safety.{HasFinishingOrder, IsFinishingOrder, IsOrderOf, KeepsLine, same_line}

none_in_empty : (before : List Row) (x : Row) (after : List Row) → [] ≡ before ++ x ∷ after → ⊥
none_in_empty [] x after e = cc
none_in_empty (y ∷ before) x after e = cc

-- what is taken out of two rows is the first, or the second and leaves the first
taken : (r s x : Row) (before after : List Row) → r ∷ s ∷ [] ≡ before ++ x ∷ after → (x ≡ r) ⊎ ((x ≡ s) × (before ++ after ≡ r ∷ []))
taken r s x [] after e = inl cc
taken r s x (y ∷ []) after e = inr (cc, cc)
taken r s x (y ∷ z ∷ before) after e = let rest : [] ≡ before ++ x ∷ after = cc in absurd (none_in_empty before x after rest)

-- what is taken out of one row is that row
only : (r x : Row) (before after : List Row) → r ∷ [] ≡ before ++ x ∷ after → x ≡ r
only r x [] after e = cc
only r x (y ∷ before) after e = let rest : [] ≡ before ++ x ∷ after = cc in absurd (none_in_empty before x after rest)

-- where the first needs more than is free, and the second must not stand before it, there is no finishing order
pub not_safe : (free : ℕ → ℕ) (r s : Row) → (Fits r.need free → ⊥) → (KeepsLine s r → ⊥) → HasFinishingOrder free (r ∷ s ∷ []) → ⊥
not_safe free r s lacks line ([], h) = let e : r ∷ s ∷ [] ≡ [] = h.each_once in cc
not_safe free r s lacks line (x ∷ rest, h) =
    elim (taken r s x h.each_once.0 h.each_once.1 h.each_once.2) [
      | inl first ↦ lacks (subst (λ (row : Row). Fits row.need free) first h.fits.0)
      | inr second ↦ then rest (subst (λ (rows : List Row). IsOrderOf rows rest) second.1 h.each_once.3) (subst (λ (row : Row). Rattle.std.specs.List.AllByRecursion (KeepsLine row) rest) second.0 h.in_line.0)
    ]
  where
    then : (rest : List Row) → IsOrderOf (r ∷ []) rest → Rattle.std.specs.List.AllByRecursion (KeepsLine s) rest → ⊥
    then [] o keeps = let e : r ∷ [] ≡ [] = o in cc
    then (y ∷ ys) o keeps = line (subst (KeepsLine s) (only r y o.0 o.1 o.2) keeps.0)

-- where the first needs more than is free, it isn't the first of any finishing order
pub not_first : (free : ℕ → ℕ) (r s : Row) (rest : List ℕ) → (Fits r.need free → ⊥) → (s.number ≡ r.number → ⊥) → Rattle.claims.specs.Safety.AreFinishing free (r ∷ s ∷ []) (r.number ∷ rest) → ⊥
not_first free r s rest lacks differ ([], h, e) = cc
not_first free r s rest lacks differ (x ∷ xs, h, e) =
    elim (taken r s x h.each_once.0 h.each_once.1 h.each_once.2) [
      | inl first ↦ lacks (subst (λ (row : Row). Fits row.need free) first h.fits.0)
      | inr second ↦ differ cc
    ]

-- the second first, and then the first
pub second_then_first : (free : ℕ → ℕ) (r s : Row) → KeepsLine s r → Fits s.need free → Fits r.need (λ kind. free kind + Rattle.counts.specs.Amounts.amount s.held kind) → Rattle.claims.specs.Safety.AreFinishing free (r ∷ s ∷ []) (s.number ∷ r.number ∷ [])
second_then_first free r s line now later = (
  s ∷ r ∷ [],
  record {
    each_once = (r ∷ [], [], refl, ([], [], refl, refl));
    in_line = ((line, tt), (tt, tt));
    fits = (now, (later, tt));
  },
  refl,
)

-- The first element that passes, of a list and of what stands for its elements.
use Rattle.std.proofs.Common.{◌≡◌, ◌≤◌, ℕ, Bool, true, false, List, [], ◌∷◌, Some, None, is_some, length, map, nat_lt, position, remove, one-add, refl, ap, arith}
use Rattle.std.specs.List.{list_any, position_or_len}
use Rattle.std.proofs.lemmas.Grind.{common_steps}
use Rattle.job_files.specs.Waiting.{without_one}

module _ {A B : Type 0} (f : A → B) (p : B → Bool) where
  abbrev first : List A → ℕ
  first xs = position_or_len (λ x. p (f x)) xs

  without_first : (xs : List A) → map f (remove xs (first xs)) ≡ without_one p (map f xs)
  without_first [] = refl
  without_first (x ∷ xs) = by (without_first xs) (p (f x)) refl
    where
      by : map f (remove xs (first xs)) ≡ without_one p (map f xs) → (b : Bool) → p (f x) ≡ b → map f (remove (x ∷ xs) (first (x ∷ xs))) ≡ without_one p (map f (x ∷ xs))
      by rest true is = rw is refl
      by rest false is = rw (is, one-add) (ap (λ ys. f x ∷ ys) rest)

  none_first : (xs : List A) → length xs ≤ first xs → map f xs ≡ without_one p (map f xs)
  none_first [] h = refl
  none_first (x ∷ xs) h = by (none_first xs) (p (f x)) refl
    where
      by : (length xs ≤ first xs → map f xs ≡ without_one p (map f xs)) → (b : Bool) → p (f x) ≡ b → map f (x ∷ xs) ≡ without_one p (map f (x ∷ xs))
      by rest true is = absurd (grind (arith, common_steps, is, h))
      by rest false is = rw is (ap (λ ys. f x ∷ ys) (rest (grind (arith, common_steps, is, h))))

  -- the first that passes is left out
  pub without_place : (xs : List A) (place : ℕ) → position (λ x. p (f x)) xs ≡ Some place → map f (remove xs place) ≡ without_one p (map f xs)
  without_place xs place found =
      let same : place ≡ first xs = grind (arith, common_steps, found) in
      rw same (without_first xs)

  -- none passes
  pub without_none : (xs : List A) → position (λ x. p (f x)) xs ≡ None → map f xs ≡ without_one p (map f xs)
  without_none xs found = none_first xs (grind (arith, common_steps, found))

  within_or_not : (xs : List A) → nat_lt (first xs) (length xs) ≡ list_any p (map f xs)
  within_or_not [] = refl
  within_or_not (x ∷ xs) = by (within_or_not xs) (p (f x)) refl
    where
      by : nat_lt (first xs) (length xs) ≡ list_any p (map f xs) → (b : Bool) → p (f x) ≡ b → nat_lt (first (x ∷ xs)) (length (x ∷ xs)) ≡ list_any p (map f (x ∷ xs))
      by rest true is = rw is (grind (arith, common_steps))
      by rest false is = rw is (grind (arith, common_steps, rest))

  -- one passes
  pub has_place : (xs : List A) → is_some (position (λ x. p (f x)) xs) ≡ list_any p (map f xs)
  has_place xs = grind (arith, common_steps, within_or_not xs)

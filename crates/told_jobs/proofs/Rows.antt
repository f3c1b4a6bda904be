-- A row, gone through one by one.
use Rattle.std.proofs.Common.{◌≡◌, ℕ, zero, suc, ◌+◌, Bool, true, false, cond, List, [], ◌∷◌, ◌++◌, length, get_or, take, filter, refl, ◌∙◌, ap, arith}
use Rattle.std.specs.Prelude.{Some, None}
use Rattle.std.specs.List.{flat_map, slice_get}
use Rattle.std.proofs.lemmas.Grind.{flat_map-append}
use Rattle.std.proofs.lemmas.List.{append-nil}
use Rattle.std.proofs.lemmas.List.Elements.{filter_more}
use Rattle.std.proofs.lemmas.List.Filters.{length-filter_more}
use Rattle.std.proofs.lemmas.Option.{get_or_from_slice_get, slice_get_within}
use Rattle.lpd_values.specs.Told.{Told}
use Rattle.lpd_values.specs.Choice.{chosen, is_active, may_remove}
use Rattle.told_jobs.specs.Jobs.{FirstOf}

piece_by : {A B : Type 0} (f : A → List B) (x : A) (t : Bool) → flat_map f (cond t (x ∷ []) []) ≡ cond t (f x) []
piece_by f x true = append-nil (f x)
piece_by f x false = refl

-- the pieces of what passes a test, with one more
pub passed_more : {A B : Type 0} (f : A → List B) (p : A → Bool) (xs : List A) (i : ℕ) (x : A) → slice_get xs i ≡ Some x → flat_map f (filter p (take (i + 1) xs)) ≡ flat_map f (filter p (take i xs)) ++ cond (p x) (f x) []
passed_more {A} {B} f p xs i x e =
    ap (λ (l : List A). flat_map f l) (filter_more p xs i x (slice_get_within xs i x e))
    ∙ (ap (λ (y : A). flat_map f (filter p (take i xs) ++ cond (p y) (y ∷ []) [])) (get_or_from_slice_get xs i x x e)
    ∙ (flat_map-append f (filter p (take i xs)) (cond (p x) (x ∷ []) [])
    ∙ ap (λ (l : List B). flat_map f (filter p (take i xs)) ++ l) (piece_by f x (p x))))

-- and how many pass it
pub counted_more : {A : Type 0} (p : A → Bool) (xs : List A) (i : ℕ) (x : A) → slice_get xs i ≡ Some x → length (filter p (take (i + 1) xs)) ≡ length (filter p (take i xs)) + cond (p x) 1 0
counted_more {A} p xs i x e =
    length-filter_more p xs i x (slice_get_within xs i x e)
    ∙ ap (λ (y : A). length (filter p (take i xs)) + cond (p y) 1 0) (get_or_from_slice_get xs i x x e)

-- the first that passes a test, alone
first_is : {A : Type 0} (p : A → Bool) (xs : List A) (i : ℕ) (d : A) → FirstOf p xs (Some i) → take 1 (filter p xs) ≡ get_or xs i d ∷ []
first_is p [] i d f = (let lt = f.0 in absurd (omega arith))
first_is p (x ∷ xs) zero d f = (let e = (f.1 d).0 in rw e refl)
first_is p (x ∷ xs) (suc i) d f =
    let lt = f.0 in
    let e = (f.1 d).1 0 (omega arith) in
    rw e (first_is p xs i d (omega arith, λ y. ((f.1 y).0, λ k l. (f.1 y).1 (suc k) (omega arith))))

none_passes : {A : Type 0} (p : A → Bool) (xs : List A) → FirstOf p xs None → filter p xs ≡ []
none_passes p [] f = refl
none_passes p (x ∷ xs) f = (let e = f x 0 (omega arith) in rw e (none_passes p xs (λ y k l. f y (suc k) (omega arith))))

module _ {A : Type 0} (told : A → Told) (xs : List A) (q : ℕ) (agent : List ℕ) where
  -- what a removal by no word takes: the active job, where the agent may remove it
  pub active_taken : {B : Type 0} (f : A → List B) (i : ℕ) (x : A) → FirstOf (λ y. is_active q (told y)) xs (Some i) → slice_get xs i ≡ Some x → flat_map f (chosen told q agent [] xs) ≡ cond (may_remove agent (told x)) (f x) []
  active_taken f i x h e =
      ap (λ (l : List A). flat_map f (filter (λ y. may_remove agent (told y)) l)) (first_is (λ y. is_active q (told y)) xs i x h)
      ∙ (ap (λ (y : A). flat_map f (filter (λ z. may_remove agent (told z)) (y ∷ []))) (get_or_from_slice_get xs i x x e)
      ∙ piece_by f x (may_remove agent (told x)))

  -- and nothing where no job is active
  pub none_active : FirstOf (λ y. is_active q (told y)) xs None → chosen told q agent [] xs ≡ []
  none_active h =
      ap (λ (l : List A). filter (λ y. may_remove agent (told y)) (take 1 l)) (none_passes (λ y. is_active q (told y)) xs h)

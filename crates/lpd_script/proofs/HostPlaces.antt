-- The place of a host among those that connected, and of its name among the names that are kept.
use Rattle.std.proofs.Common.{◌≡◌, ◌+◌, ◌++◌, ◌||◌, ℕ, Bool, true, false, not, cond, List, [], ◌∷◌, map, refl, ap, ◌∙◌}
use Rattle.std.specs.List.{list_any, position_or_len}
use Rattle.std.proofs.lemmas.List.{map_push}
use Rattle.std.specs.Str.{bytes_eq}
use Rattle.lpd_script.specs.Hosts.{with_host}

module _ {A : Type 0} (f : A → List ℕ) where
  pub same_place : (h : List ℕ) (xs : List A) → position_or_len (λ x. bytes_eq h (f x)) xs ≡ position_or_len (bytes_eq h) (map f xs)
  same_place h [] = refl
  same_place h (x ∷ xs) = ap (λ n. cond (not (bytes_eq h (f x))) (1 + n) 0) (same_place h xs)

  same_any : (h : List ℕ) (xs : List A) → list_any (λ x. bytes_eq h (f x)) xs ≡ list_any (bytes_eq h) (map f xs)
  same_any h [] = refl
  same_any h (x ∷ xs) = ap (λ b. bytes_eq h (f x) || b) (same_any h xs)

  picked : (b : Bool) (x : A) (xs : List A) → map f (cond b xs (xs ++ x ∷ [])) ≡ cond b (map f xs) (map f xs ++ f x ∷ [])
  picked true x xs = refl
  picked false x xs = map_push f xs x

  pub same_hosts : (x : A) (xs : List A) → map f (cond (list_any (λ y. bytes_eq (f x) (f y)) xs) xs (xs ++ x ∷ [])) ≡ with_host (map f xs) (f x)
  same_hosts x xs =
      picked (list_any (λ y. bytes_eq (f x) (f y)) xs) x xs
      ∙ ap (λ b. cond b (map f xs) (map f xs ++ f x ∷ [])) (same_any (f x) xs)

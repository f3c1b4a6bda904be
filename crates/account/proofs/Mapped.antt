-- A loop that changes each element of a list.
use Rattle.std.proofs.Common.{◌≡◌, ℕ, ◌+◌, ◌<◌, ◌≤◌, List, ◌++◌, length, get_or, set, take, drop, map, refl, ◌∙◌, ap, arith}
use Rattle.std.proofs.lemmas.List.{append-nil, drop_all, get_or_default, length-append, length-drop, length-map, length-take-le, take_all}
use Rattle.std.proofs.lemmas.List.Edits.{map_over_more}

-- the first elements of a list are changed, so many
pub record IsMapped {X : Type 0} (f : X → X) (xs ys : List X) (i : ℕ) : Type 0 where
  pub is : ys ≡ map f (take i xs) ++ drop i xs

pub mapped_more : {X : Type 0} (f : X → X) (xs ys zs : List X) (i : ℕ) (d : X) → IsMapped f xs ys i → i < length xs → i < length ys → zs ≡ set ys i (f (get_or ys i d)) → IsMapped f xs zs (i + 1)
mapped_more {X} f xs ys zs i d m lt there set' = record {
  is = set' ∙ map_over_more f xs ys i (get_or ys i d) lt m.is (get_or_default ys i d (get_or ys i d) there);
}

pub mapped_length : {X : Type 0} (f : X → X) (xs ys : List X) (i : ℕ) → IsMapped f xs ys i → i ≤ length xs → length ys ≡ length xs
mapped_length f xs ys i m le =
    let a = ap length m.is in
    let b = length-append (map f (take i xs)) (drop i xs) in
    let c = length-map (take i xs) f in
    let e = length-take-le i xs le in
    let g = length-drop i xs in
    omega (arith, a, b, c, e, g)

-- Tests of lists.
use Rattle.std.proofs.Common.{◌≡◌, ℕ, Bool, true, false, not, ◌&&◌, ◌||◌, nat_le, nat_lt, int_lt, pos, List, [], ◌∷◌, ◌++◌, Some, slice_get, map, Result, Ok, Err, IfErr, IsErrAnd, subst, sym, refl, ap, arith}
use Rattle.std.proofs.lemmas.Bool.Decides.{nat_tests}
use Rattle.std.specs.List.{list_all, list_any}
use Rattle.config_values.specs.Config.{Queue}

pub list_any-map : {X Y : Type 0} (p : X → Bool) (h : Y → X) (ys : List Y) → list_any p (map h ys) ≡ list_any (λ y. p (h y)) ys
list_any-map p h [] = refl
list_any-map p h (y ∷ ys) = ap (λ b. p (h y) || b) (list_any-map p h ys)

-- each limit is within the pages, or some limit is over them
one_within : (pages limit : ℕ) (b : Bool) → (nat_le limit pages && not b) ≡ not (nat_lt pages limit || b)
one_within pages limit true = grind (arith, nat_tests)
one_within pages limit false = grind (arith, nat_tests)

pub limits_within : (pages : ℕ) (queues : List Queue) → list_all (λ (q : Queue). nat_le q.limit pages) queues ≡ not (list_any (int_lt (pos pages)) (map (λ (q : Queue). pos q.limit) queues))
limits_within pages [] = refl
limits_within pages (q ∷ queues) = rw (limits_within pages queues) (one_within pages q.limit _)

-- the first of two lists is that of the one before, where it has one
pub first_of : {X : Type 0} (xs ys : List X) (x : X) → slice_get xs 0 ≡ Some x → slice_get (xs ++ ys) 0 ≡ Some x
first_of [] ys x is = absurd cc
first_of (y ∷ xs) ys x is = is

-- what holds of a fault holds of what is told for it
pub err_is : {T E : Type 0} (P : E → Type 0) (r : Result T E) (e : E) → IsErrAnd r (λ y. y ≡ e) → P e → IfErr r P
err_is P (Ok x) e is holds = tt
err_is P (Err y) e is holds = subst P (sym is) holds

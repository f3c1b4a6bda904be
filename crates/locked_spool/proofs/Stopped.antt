-- Printers that are stopped, counted.
use Rattle.std.proofs.Common.{◌≡◌, ℕ, ◌+◌, ◌<◌, Bool, true, false, List, [], ◌∷◌, refl, sym, subst, arith}
use Rattle.std.specs.Prelude.{cond, count_by}
use Rattle.std.specs.List.{list_any}
use Rattle.std.proofs.lemmas.List.Sums.{sum_by-cons}
use Rattle.config_values.specs.Config.{IsQueue}
use Rattle.spool_history.specs.Base.{Base}
use Rattle.spool_history.specs.Events.{Event}
use Rattle.spool_history.specs.Events.Event.{Started}
use Rattle.spool_history.specs.Legal.{May}
use Rattle.spool_requests.proofs.Starts.{start_decided}
use Rattle.spool_calls.specs.Looks.{Detail, What, size}
use Rattle.spool_calls.specs.Kept.{Kept}
use Rattle.spool_calls.specs.Calls.{before}
use Rattle.spool_calls.specs.Readers.{stopped_for}

pub one_more : {X : Type 0} (t : X → Bool) (x : X) (xs : List X) → count_by t (x ∷ xs) ≡ cond (t x) 1 0 + count_by t xs
one_more {X} t x xs = sum_by-cons (λ (y : X). cond (t y) 1 0) x xs

some_by : {X : Type 0} (t : X → Bool) (x : X) (xs : List X) (b : Bool) → t x ≡ b → 0 < cond b 1 0 + count_by t xs → (0 < count_by t xs → list_any t xs ≡ true) → list_any t (x ∷ xs) ≡ true
some_by t x xs true e n rest = rw e refl
some_by t x xs false e n rest = rw e (rest (omega (arith, n)))

-- where some are counted there is one
counted : {X : Type 0} (t : X → Bool) (xs : List X) → 0 < count_by t xs → list_any t xs ≡ true
counted t [] n = absurd (omega (arith, n))
counted t (x ∷ xs) n = some_by t x xs (t x) refl (subst (λ (m : ℕ). 0 < m) (one_more t x xs) n) (counted t xs)

none_by : {X : Type 0} (t : X → Bool) (x : X) (xs : List X) (b : Bool) → t x ≡ b → list_any t (x ∷ xs) ≡ true → (list_any t xs ≡ true → 0 < count_by t xs) → 0 < cond b 1 0 + count_by t xs
none_by t x xs true e a rest = omega arith
none_by t x xs false e a rest =
    let n = rest (rw e at a) in
    omega (arith, n)

-- where there is one, some are counted
counts : {X : Type 0} (t : X → Bool) (xs : List X) → list_any t xs ≡ true → 0 < count_by t xs
counts t [] a = absurd (cc)
counts t (x ∷ xs) a = subst (λ (m : ℕ). 0 < m) (sym (one_more t x xs)) (none_by t x xs (t x) refl a (counts t xs))

module _ (d : Detail) (b : Base) (h : List (Event (What d))) (k : Kept) (q : ℕ) where
  -- a start may come for a queue of which a printer is stopped
  pub may_start : (before d b h k).closed ≡ false → IsQueue k.config q → 0 < stopped_for d b h k q → May (size d) (before d b h k) (Started q)
  may_start opened is n =
      let s = (start_decided k.config b h q).0 (counted _ (before d b h k).printers n) in
      (opened, is, s.0, s.1, s.2)

  -- and for no other
  pub may_not_start : stopped_for d b h k q ≡ 0 → May (size d) (before d b h k) (Started q) → ⊥
  may_not_start none may =
      let n = counts _ (before d b h k).printers ((start_decided k.config b h q).1 (may.2, may.3, may.4)) in
      omega (arith, none, n)

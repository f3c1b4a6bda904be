-- Jobs whose rows hold and need no more than before, or that are gone, can finish as before.
use Rattle.std.proofs.Common.{◌≡◌, ℕ, ◌+◌, ◌-◌, ◌≤◌, Bool, true, false, List, [], ◌∷◌, ◌++◌, map, refl, sym, subst, arith, append_assoc}
use Rattle.std.specs.Prelude.{filter}
use Rattle.std.specs.List.{AllByRecursion}
use Rattle.counts.specs.Amounts.{amount}
use Rattle.claims.specs.declared.row.Row.{Row}
use Rattle.claims.specs.Safety.{freed, HasFinishingOrder}
use Rattle.claims.proofs.Orders.{safe_more, safe_without}
use Rattle.claims.proofs.Lowered.{Lower, safe_lower, holds}
use Rattle.spool_history.specs.Now.{Job, is_held}
use Rattle.spool_laws.proofs.Known.{filter_cons}

-- each job that is still held after the change has a lower row
abbrev pub Lowers : {C : Type 0} → (Job C → Row) → (Job C → Job C) → List (Job C) → Type 0
Lowers row g ws = AllByRecursion (λ w. is_held (g w) ≡ true → Lower (row w) (row (g w))) ws

abbrev pub left : {C : Type 0} → (Job C → Job C) → List (Job C) → List (Job C)
left g ws = filter is_held (map g ws)

abbrev Enough : (ℕ → ℕ) → List Row → (ℕ → ℕ) → List Row → Type 0
Enough f xs g ys = (k : ℕ) → f k + holds k xs ≤ g k + holds k ys

abbrev Goal : {C : Type 0} → (Job C → Row) → (Job C → Job C) → List (Job C) → Type 0
Goal row g ws = (a : List Row) (f f' : ℕ → ℕ) → Enough f (map row ws) f' (map row (left g ws)) → HasFinishingOrder f (a ++ map row ws) → HasFinishingOrder f' (a ++ map row (left g ws))

lowers_step : {C : Type 0} (row : Job C → Row) (g : Job C → Job C) (w : Job C) (ws : List (Job C)) (b : Bool) → is_held (g w) ≡ b → (is_held (g w) ≡ true → Lower (row w) (row (g w))) → Goal row g ws → Goal row g (w ∷ ws)
lowers_step {C} row g w ws true e l ih a f f' more h =
    let x = row w in
    let y = row (g w) in
    let low = l e in
    let is : left g (w ∷ ws) ≡ g w ∷ left g ws = filter_cons true (g w) (map g ws) e in
    let more' : Enough f (map row (w ∷ ws)) f' (y ∷ map row (left g ws)) = subst (λ (r : List (Job C)). Enough f (map row (w ∷ ws)) f' (map row r)) is more in
    let f1 : ℕ → ℕ = λ k. f k + (amount x.held k - amount y.held k) in
    let one : HasFinishingOrder f1 (a ++ y ∷ map row ws) = safe_lower f f1 a x y (map row ws) low (λ k. omega arith) (λ k. omega (arith, low.held k)) h in
    let all : HasFinishingOrder f' ((a ++ y ∷ []) ++ map row (left g ws)) =
    ih (a ++ y ∷ []) f1 f' (λ k. omega (arith, more' k, low.held k)) (subst (HasFinishingOrder f1) (sym (append_assoc a (y ∷ []) (map row ws))) one) in
    subst (λ (r : List (Job C)). HasFinishingOrder f' (a ++ map row r)) (sym is) (subst (HasFinishingOrder f') (append_assoc a (y ∷ []) (map row (left g ws))) all)
lowers_step {C} row g w ws false e l ih a f f' more h =
    let x = row w in
    let is : left g (w ∷ ws) ≡ left g ws = filter_cons false (g w) (map g ws) e in
    let more' : Enough f (map row (w ∷ ws)) f' (map row (left g ws)) = subst (λ (r : List (Job C)). Enough f (map row (w ∷ ws)) f' (map row r)) is more in
    subst (λ (r : List (Job C)). HasFinishingOrder f' (a ++ map row r)) (sym is) (ih a (freed f x) f' (λ k. omega (arith, more' k)) (safe_without f a x (map row ws) h))

pub lowers : {C : Type 0} (row : Job C → Row) (g : Job C → Job C) (ws : List (Job C)) → Lowers row g ws → Goal row g ws
lowers row g [] l = λ a f f' more h. safe_more f f' (a ++ []) (λ k. omega (arith, more k)) h
lowers row g (w ∷ ws) l = lowers_step row g w ws (is_held (g w)) refl l.0 (lowers row g ws l.1)

-- That an order exists if and only if some claim may go first and the others have an order after it.
use Rattle.std.proofs.Common.{◌≡◌, ℕ, suc, ◌<◌, ◌↔◌, Bool, true, false, List, [], ◌∷◌, ◌++◌, length, get_or, take, drop, refl, sym, ◌∙◌, ap, subst, arith, drop-cons}
use Rattle.std.specs.Prelude.{remove, sum_by, IsTrue, IfOk, Result, Ok, Err}
use Rattle.std.specs.List.{AllByRecursion}
use Rattle.std.proofs.lemmas.List.{take-append-drop, map-append, get_or_default}
use Rattle.std.proofs.lemmas.List.Sums.{sum_by_push}
use Rattle.counts.specs.Amounts.{amount, Fits}
use Rattle.claims.specs.declared.row.Row.{Row}
use Rattle.claims.specs.Safety.{KeepsLine, HasFinishingOrder, freed}
use Rattle.claims.proofs.Orders.{safe_first, safe_without, safe_more, some_first}
use Rattle.config_values.specs.Config as S
use Rattle.history_legality.specs.declared.orders.Claim.{Claim}
use Rattle.history_legality.specs.Claimed.{row_seen, rows_seen, with_back, claim_at, no_claim, GoesAt}

abbrev front : S.Config → List Claim → ℕ → List Row
front c xs i = rows_seen c (take i xs)

abbrev back : S.Config → List Claim → ℕ → List Row
back c xs i = rows_seen c (drop (suc i) xs)

rows_split : (c : S.Config) (xs : List Claim) (i : ℕ) → i < length xs → rows_seen c xs ≡ front c xs i ++ row_seen c (claim_at xs i) ∷ back c xs i
rows_split c xs i lt =
    ap (rows_seen c) (sym (take-append-drop i xs) ∙ ap (λ (r : List Claim). take i xs ++ r) (drop-cons xs i no_claim lt))
    ∙ map-append (row_seen c) (take i xs) (claim_at xs i ∷ drop (suc i) xs)

rows_removed : (c : S.Config) (xs : List Claim) (i : ℕ) → rows_seen c (remove xs i) ≡ front c xs i ++ back c xs i
rows_removed c xs i = map-append (row_seen c) (take i xs) (drop (suc i) xs)

-- where the claim at some place goes first there is an order
pub order_from_place : (c : S.Config) (f : ℕ → ℕ) (xs : List Claim) (i : ℕ) → i < length xs → GoesAt c f xs i → HasFinishingOrder f (rows_seen c xs)
order_from_place c f xs i lt g =
    let x = row_seen c (claim_at xs i) in
    let removed = rows_removed c xs i in
    subst (λ (r : List Row). HasFinishingOrder f r) (sym (rows_split c xs i lt))
    (safe_first f (front c xs i) x (back c xs i) (record { fits = g.fits; in_line = subst (AllByRecursion (KeepsLine x)) removed g.stands })
    (subst (λ (r : List Row). HasFinishingOrder (freed f x) r) removed g.rest))

-- a place in the rows is a place in the claims
Split : S.Config → List Claim → List Row → Row → List Row → Type 0
Split c xs a x b = (i : ℕ) × (i < length xs) × (a ≡ front c xs i) × (x ≡ row_seen c (claim_at xs i)) × (b ≡ back c xs i)

place_of : (c : S.Config) (xs : List Claim) (a : List Row) (x : Row) (b : List Row) → rows_seen c xs ≡ a ++ x ∷ b → Split c xs a x b
unfolding Split
place_of c [] [] x b e = absurd cc
place_of c [] (y ∷ a) x b e = absurd cc
place_of c (y ∷ xs) [] x b e = (0, omega (arith), refl, cc, cc)
place_of c (y ∷ xs) (z ∷ a) x b e =
    let h = place_of c xs a x b cc in
    (suc h.0, omega (arith, h.1), cc (h.2), h.3, h.4)

-- an order of some claims has one that goes first
pub place_from_order : (c : S.Config) (f : ℕ → ℕ) (xs : List Claim) → 0 < length xs → HasFinishingOrder f (rows_seen c xs) → (i : ℕ) × (i < length xs) × GoesAt c f xs i
unfolding Split
place_from_order c f [] lt h = absurd (omega arith)
place_from_order c f (y ∷ ys) lt h =
    let w = some_first f (row_seen c y) (rows_seen c ys) h in
    let s = place_of c (y ∷ ys) w.0 w.1 w.2 w.3 in
    let i = s.0 in
    let others : w.0 ++ w.2 ≡ rows_seen c (remove (y ∷ ys) i) = cc (s.2, s.4, rows_removed c (y ∷ ys) i) in
    let rest : HasFinishingOrder (freed f w.1) (w.0 ++ w.2) = safe_without f w.0 w.1 w.2 (subst (λ (r : List Row). HasFinishingOrder f r) w.3 h) in
    let stands : AllByRecursion (KeepsLine w.1) (rows_seen c (remove (y ∷ ys) i)) = subst (λ (r : List Row). AllByRecursion (KeepsLine w.1) r) others w.4.in_line in (
      i,
      s.1,
      record {
        stands = subst (λ (r : Row). AllByRecursion (KeepsLine r) (rows_seen c (remove (y ∷ ys) i))) s.3 stands;
        fits = subst (λ (r : Row). Fits r.need f) s.3 w.4.fits;
        rest = subst (λ (r : Row). HasFinishingOrder (freed f r) (rows_seen c (remove (y ∷ ys) i))) s.3 (subst (λ (r : List Row). HasFinishingOrder (freed f w.1) r) others rest);
      },
    )

-- one more gave back what it held
back_more : (c : S.Config) (f : ℕ → ℕ) (gone : List Claim) (x : Claim) (k : ℕ) → with_back c f (gone ++ x ∷ []) k ≡ freed (with_back c f gone) (row_seen c x) k
back_more c f gone x k =
    let m = ap (λ (r : List Row). sum_by (λ (row : Row). amount row.held k) r) (map-append (row_seen c) gone (x ∷ [])) in
    let s = sum_by_push (λ (row : Row). amount row.held k) (rows_seen c gone) (row_seen c x) in
    omega (arith, m, s)

-- two tellings of what is free
pub order_same : (f g : ℕ → ℕ) (rows : List Row) → ((k : ℕ) → f k ≡ g k) → HasFinishingOrder f rows ↔ HasFinishingOrder g rows
order_same f g rows e = (safe_more f g rows (λ k. omega (arith, e k)), safe_more g f rows (λ k. omega (arith, e k)))

pub order_more : (c : S.Config) (f : ℕ → ℕ) (gone : List Claim) (x : Claim) (rows : List Row)
    → HasFinishingOrder (freed (with_back c f gone) (row_seen c x)) rows ↔ HasFinishingOrder (with_back c f (gone ++ x ∷ [])) rows
order_more c f gone x rows = order_same (freed (with_back c f gone) (row_seen c x)) (with_back c f (gone ++ x ∷ [])) rows (λ k. sym (back_more c f gone x k))

-- a claim that goes first, where the others were found to have an order
pub found : (c : S.Config) (f : ℕ → ℕ) (xs gone : List Claim) (k : ℕ) (others again more : List Claim) (x : Claim) (b1 b2 b3 : Bool) → k < length xs → others ≡ remove xs k → again ≡ remove xs k → x ≡ get_or xs k x
    → more ≡ gone ++ x ∷ [] → (IsTrue b1 ↔ AllByRecursion (KeepsLine (row_seen c x)) (rows_seen c others)) → (IsTrue b2 ↔ Fits (row_seen c x).need (with_back c f gone)) → (IsTrue b3 ↔ HasFinishingOrder (with_back c f more) (rows_seen c again))
    → b1 ≡ true → b2 ≡ true → b3 ≡ true → HasFinishingOrder (with_back c f gone) (rows_seen c xs)
found c f xs gone k others again more x b1 b2 b3 lt e1 e2 ex em i1 i2 i3 t1 t2 t3 =
    let here : x ≡ claim_at xs k = ex ∙ get_or_default xs k x no_claim lt in
    let stands : AllByRecursion (KeepsLine (row_seen c x)) (rows_seen c (remove xs k)) = subst (λ (r : List Claim). AllByRecursion (KeepsLine (row_seen c x)) (rows_seen c r)) e1 (i1.0 t1) in
    let rest : HasFinishingOrder (with_back c f (gone ++ x ∷ [])) (rows_seen c (remove xs k)) = subst (λ (r : List Claim). HasFinishingOrder (with_back c f (gone ++ x ∷ [])) (rows_seen c r)) e2 (subst (λ (r : List Claim). HasFinishingOrder (with_back c f r) (rows_seen c again)) em (i3.0 t3)) in
    let back : HasFinishingOrder (freed (with_back c f gone) (row_seen c x)) (rows_seen c (remove xs k)) = (order_more c f gone x (rows_seen c (remove xs k))).1 rest in
    order_from_place c (with_back c f gone) xs k lt (record {
      stands = subst (λ (y : Claim). AllByRecursion (KeepsLine (row_seen c y)) (rows_seen c (remove xs k))) here stands;
      fits = subst (λ (y : Claim). Fits (row_seen c y).need (with_back c f gone)) here (i2.0 t2);
      rest = subst (λ (y : Claim). HasFinishingOrder (freed (with_back c f gone) (row_seen c y)) (rows_seen c (remove xs k))) here back;
    })

-- one that doesn't stand first, doesn't fit, or leaves no order
pub not_first : (c : S.Config) (f : ℕ → ℕ) (xs : List Claim) (k : ℕ) (others : List Claim) (x : Claim) (b : Bool) → k < length xs → others ≡ remove xs k → x ≡ get_or xs k x
    → (IsTrue b ↔ AllByRecursion (KeepsLine (row_seen c x)) (rows_seen c others)) → b ≡ false → GoesAt c f xs k → ⊥
not_first c f xs k others x b lt e ex i isnt g =
    let here : x ≡ claim_at xs k = ex ∙ get_or_default xs k x no_claim lt in
    let stands : AllByRecursion (KeepsLine (row_seen c x)) (rows_seen c (remove xs k)) = subst (λ (y : Claim). AllByRecursion (KeepsLine (row_seen c y)) (rows_seen c (remove xs k))) (sym here) g.stands in
    absurd (cc (i.1 (subst (λ (r : List Claim). AllByRecursion (KeepsLine (row_seen c x)) (rows_seen c r)) (sym e) stands)))

pub not_fitting : (c : S.Config) (f : ℕ → ℕ) (xs : List Claim) (k : ℕ) (x : Claim) (b : Bool) → k < length xs → x ≡ get_or xs k x → (IsTrue b ↔ Fits (row_seen c x).need f) → b ≡ false → GoesAt c f xs k → ⊥
not_fitting c f xs k x b lt ex i isnt g =
    let here : x ≡ claim_at xs k = ex ∙ get_or_default xs k x no_claim lt in
    absurd (cc (i.1 (subst (λ (y : Claim). Fits (row_seen c y).need f) (sym here) g.fits)))

pub no_order_after : (c : S.Config) (f : ℕ → ℕ) (xs gone : List Claim) (k : ℕ) (again more : List Claim) (x : Claim) (b : Bool) → k < length xs → again ≡ remove xs k → x ≡ get_or xs k x → more ≡ gone ++ x ∷ []
    → (IsTrue b ↔ HasFinishingOrder (with_back c f more) (rows_seen c again)) → b ≡ false → GoesAt c (with_back c f gone) xs k → ⊥
no_order_after c f xs gone k again more x b lt e ex em i isnt g =
    let here : x ≡ claim_at xs k = ex ∙ get_or_default xs k x no_claim lt in
    let back : HasFinishingOrder (freed (with_back c f gone) (row_seen c x)) (rows_seen c (remove xs k)) = subst (λ (y : Claim). HasFinishingOrder (freed (with_back c f gone) (row_seen c y)) (rows_seen c (remove xs k))) (sym here) g.rest in
    let rest : HasFinishingOrder (with_back c f (gone ++ x ∷ [])) (rows_seen c (remove xs k)) = (order_more c f gone x (rows_seen c (remove xs k))).0 back in
    absurd (cc (i.1 (subst (λ (r : List Claim). HasFinishingOrder (with_back c f r) (rows_seen c again)) (sym em) (subst (λ (r : List Claim). HasFinishingOrder (with_back c f (gone ++ x ∷ [])) (rows_seen c r)) (sym e) rest))))

-- an answer decides what follows from what it decides and leads back to it
pub if_ok_iff : {E P Q : Type 0} (r : Result Bool E) → (P → Q) → (Q → P) → IfOk r (λ (b : Bool). IsTrue b ↔ P) → IfOk r (λ (b : Bool). IsTrue b ↔ Q)
if_ok_iff (Ok x) up down h = (λ t. up (h.0 t), λ q. h.1 (down q))
if_ok_iff (Err e) up down h = tt

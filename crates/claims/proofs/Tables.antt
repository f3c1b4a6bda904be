-- A table stays one.
use Rattle.std.proofs.Common.{◌≡◌, ◌==◌, ◌≢◌, ℕ, zero, suc, ◌+◌, ◌-◌, ◌<◌, ◌≤◌, Bool, true, false, List, [], ◌∷◌, ◌++◌, length, get_or, set, take, drop, map, refl, sym, ◌∙◌, ap, subst, arith, take-append-drop, drop-cons}
use Rattle.std.specs.Prelude.{All}
use Rattle.std.specs.List.{AllByRecursion}
use Rattle.std.proofs.lemmas.List.{get_or-set_same, get_or-set_other, map-set, set-get_or, length-set, length_push}
use Rattle.std.proofs.lemmas.List.Elements.{All-set, All-push, All-append, All-take, All-drop, recursion_from_All, All-get_or}
use Rattle.std.proofs.lemmas.List.Edits.{length-remove}
use Rattle.std.proofs.lemmas.List.Sums.{sum_by-set, sum_by-remove, sum_by_push}
use Rattle.std.proofs.lemmas.Bool.Decides.{nat_tests}
use Rattle.claims.specs.declared.row.Row.{Row}
use Rattle.counts.specs.Amounts.{amount}
use Rattle.counts.proofs.Sums.{amount-sum_of, length-sum_of}
use Rattle.claims.specs.Claims.{Claims, IsTable, AddsUp, HaveKinds, Pairwise, IsLower, held_of, row_at, no_row}
use Rattle.claims.specs.Changes.{row_with, with_amounts, granted, need_ended, closed}

all_same : (x y : ℕ) (xs ys : List Row) → x ≡ y → map (λ (r : Row). r.number) xs ≡ map (λ (r : Row). r.number) ys → AllByRecursion (λ r. x < r.number) xs → AllByRecursion (λ r. y < r.number) ys
all_same x y [] [] e n a = tt
all_same x y [] (v ∷ ys) e n a = absurd cc
all_same x y (u ∷ xs) [] e n a = absurd cc
all_same x y (u ∷ xs) (v ∷ ys) e n a = (let d : u.number ≡ v.number = cc in let l = a.0 in omega arith, all_same x y xs ys e (cc) a.1)

rising_same : (xs ys : List Row) → map (λ (r : Row). r.number) xs ≡ map (λ (r : Row). r.number) ys → Pairwise IsLower xs → Pairwise IsLower ys
rising_same [] [] n r = tt
rising_same [] (v ∷ ys) n r = absurd cc
rising_same (u ∷ xs) [] n r = absurd cc
rising_same (u ∷ xs) (v ∷ ys) n r = (all_same u.number v.number xs ys (cc) (cc) r.0, rising_same xs ys (cc) r.1)

rising_set : (rows : List Row) (i : ℕ) (y : Row) → i < length rows → y.number ≡ (row_at rows i).number → Pairwise IsLower rows → Pairwise IsLower (set rows i y)
rising_set rows i y lt e r =
    let f : Row → ℕ = λ row. row.number in
    let here : get_or (map f rows) i 0 ≡ f (row_at rows i) = get_map rows i lt in
    rising_same rows (set rows i y) (sym (map-set f rows i y ∙ (ap (set (map f rows) i) (e ∙ sym here) ∙ set-get_or (map f rows) i 0))) r
  where
    get_map : (rows : List Row) (i : ℕ) → i < length rows → get_or (map (λ (r : Row). r.number) rows) i 0 ≡ (row_at rows i).number
    get_map [] i lt = absurd (omega arith)
    get_map (x ∷ rows) zero lt = refl
    get_map (x ∷ rows) (suc i) lt = get_map rows i (omega arith)

pub adds_at : (cap free : List ℕ) (rows : List Row) (i kind n : ℕ) (need : List ℕ) (k : ℕ) (b : Bool) → (k == kind) ≡ b → AddsUp cap free rows → i < length rows → kind < length free → kind < length (row_at rows i).held
    → n ≤ amount free kind + amount (row_at rows i).held kind
    → amount (set free kind ((amount free kind + amount (row_at rows i).held kind) - n)) k + held_of k (set rows i (row_with (set (row_at rows i).held kind n) need (row_at rows i))) ≡ amount cap k
adds_at cap free rows i kind n need k true e a lt kf kh fits =
    let row = row_at rows i in
    let same : k ≡ kind = grind (arith, nat_tests) in
    let y : Row = row_with (set row.held kind n) need row in
    let s = sum_by-set (λ (r : Row). amount r.held k) rows i y no_row lt in
    let f : amount (set free kind ((amount free kind + amount row.held kind) - n)) k ≡ (amount free kind + amount row.held kind) - n = ap (amount (set free kind ((amount free kind + amount row.held kind) - n))) same ∙ get_or-set_same free kind _ 0 kf in
    let g : amount y.held k ≡ n = ap (amount (set row.held kind n)) same ∙ get_or-set_same row.held kind n 0 kh in
    let o : amount row.held k ≡ amount row.held kind = ap (amount row.held) same in
    let w : amount free k ≡ amount free kind = ap (amount free) same in
    let z = a k in
    omega (arith, s, f, g, o, w, z)
adds_at cap free rows i kind n need k false e a lt kf kh fits =
    let row = row_at rows i in
    let ne : k ≢ kind = grind (arith, nat_tests) in
    let y : Row = row_with (set row.held kind n) need row in
    let s = sum_by-set (λ (r : Row). amount r.held k) rows i y no_row lt in
    let f : amount (set free kind ((amount free kind + amount row.held kind) - n)) k ≡ amount free k = get_or-set_other free kind k _ 0 ne in
    let g : amount y.held k ≡ amount row.held k = get_or-set_other row.held kind k n 0 ne in
    let z = a k in
    omega (arith, s, f, g, z)

held_kinds : (kinds : ℕ) (rows : List Row) (i : ℕ) → i < length rows → HaveKinds kinds rows → (length (row_at rows i).held ≡ kinds) × (length (row_at rows i).need ≡ kinds)
held_kinds kinds rows i lt h = All-get_or (λ (r : Row). (length r.held ≡ kinds) × (length r.need ≡ kinds)) rows i no_row lt h

pub with_table : (t : Claims) (i kind n m : ℕ) → IsTable t → i < length t.rows → kind < length t.capacity → n ≤ amount t.free kind + amount (row_at t.rows i).held kind → IsTable (with_amounts t i kind n m)
with_table t i kind n m h lt kc fits =
    let row = row_at t.rows i in
    let y : Row = row_with (set row.held kind n) (set row.need kind m) row in
    let k = held_kinds (length t.capacity) t.rows i lt h.kinds in
    let lf = length-set t.free kind ((amount t.free kind + amount row.held kind) - n) in
    let sk = h.same_kinds in
    record {
      small = h.small;
      few = h.few;
      within = let l = length-set t.rows i y in let w = h.within in omega arith;
      rising = rising_set t.rows i y lt refl h.rising;
      adds_up = λ q. adds_at t.capacity t.free t.rows i kind n (set row.need kind m) q (q == kind) refl h.adds_up lt (omega arith) (omega arith) fits;
      kinds = All-set (λ (r : Row). (length r.held ≡ length t.capacity) × (length r.need ≡ length t.capacity)) t.rows i y (length-set row.held kind n ∙ k.0, length-set row.need kind m ∙ k.1) h.kinds;
      same_kinds = lf ∙ sk;
    }

all_lower : (n : ℕ) (rows : List Row) → All (λ (r : Row). r.number < n) rows → Pairwise IsLower rows → (y : Row) → y.number ≡ n → Pairwise IsLower (rows ++ y ∷ [])
all_lower n rows a r y e = push rows (recursion_from_All (λ (x : Row). x.number < n) rows a) r
  where
    add : (x : Row) (xs : List Row) → AllByRecursion (IsLower x) xs → x.number < y.number → AllByRecursion (IsLower x) (xs ++ y ∷ [])
    add x [] h l = (l, tt)
    add x (z ∷ xs) h l = (h.0, add x xs h.1 l)

    push : (xs : List Row) → AllByRecursion (λ (x : Row). x.number < n) xs → Pairwise IsLower xs → Pairwise IsLower (xs ++ y ∷ [])
    push [] a r = (tt, tt)
    push (x ∷ xs) a r = (add x xs r.0 (let l = a.0 in omega arith), push xs a.1 r.1)

pub open_table : (t : Claims) (y : Row) → IsTable t → length t.rows < t.room → All (λ (r : Row). r.number < y.number) t.rows → ((k : ℕ) → amount y.held k ≡ 0) → length y.held ≡ length t.capacity → length y.need ≡ length t.capacity → IsTable (record t { rows = t.rows ++ y ∷ [] })
open_table t y h room lower none kh kn = record {
  small = h.small;
  few = h.few;
  within = let l = length_push t.rows y in omega arith;
  rising = all_lower y.number t.rows lower h.rising y refl;
  adds_up = λ k. (let s = sum_by_push (λ (r : Row). amount r.held k) t.rows y in let z = none k in let a = h.adds_up k in omega (arith, s, z, a));
  kinds = All-push (λ (r : Row). (length r.held ≡ length t.capacity) × (length r.need ≡ length t.capacity)) t.rows y h.kinds (kh, kn);
  same_kinds = h.same_kinds;
}

pub all_without : (P : Row → Type 0) (a : List Row) (x : Row) (b : List Row) → AllByRecursion P (a ++ x ∷ b) → AllByRecursion P (a ++ b)
all_without P [] x b h = h.1
all_without P (y ∷ a) x b h = (h.0, all_without P a x b h.1)

-- what holds pairwise holds pairwise without one
pub pairwise_without : (R : Row → Row → Type 0) (a : List Row) (x : Row) (b : List Row) → Pairwise R (a ++ x ∷ b) → Pairwise R (a ++ b)
pairwise_without R [] x b h = h.1
pairwise_without R (y ∷ a) x b h = (all_without (R y) a x b h.0, pairwise_without R a x b h.1)

pub close_table : (t : Claims) (i : ℕ) → IsTable t → i < length t.rows → IsTable (closed t i)
close_table t i h lt =
    let P : Row → Type 0 = λ (r : Row). (length r.held ≡ length t.capacity) × (length r.need ≡ length t.capacity) in
    let held = (row_at t.rows i).held in
    let k = held_kinds (length t.capacity) t.rows i lt h.kinds in
    let same : length held ≡ length t.free = k.0 ∙ sym h.same_kinds in
    record {
      small = h.small;
      few = h.few;
      within = let l = length-remove t.rows i lt in let w = h.within in omega arith;
      rising = pairwise_without IsLower (take i t.rows) (row_at t.rows i) (drop (suc i) t.rows) (subst (Pairwise IsLower) (sym (take-append-drop i t.rows) ∙ ap (λ (r : List Row). take i t.rows ++ r) (drop-cons t.rows i no_row lt)) h.rising);
      adds_up = λ k. (let s = sum_by-remove (λ (r : Row). amount r.held k) t.rows i no_row lt in let a = h.adds_up k in let m = amount-sum_of t.free held k same in omega (arith, s, a, m));
      kinds = All-append P (take i t.rows) (drop (suc i) t.rows) (All-take P i t.rows h.kinds) (All-drop P (suc i) t.rows h.kinds);
      same_kinds = length-sum_of t.free held ∙ h.same_kinds;
    }

-- the row with one more held and one less needed
pub granted_is : (t : Claims) (i kind : ℕ) → 0 < amount t.free kind → with_amounts t i kind (amount (row_at t.rows i).held kind + 1) (amount (row_at t.rows i).need kind - 1) ≡ granted t i kind
granted_is t i kind some =
    let e : (amount t.free kind + amount (row_at t.rows i).held kind) - (amount (row_at t.rows i).held kind + 1) ≡ amount t.free kind - 1 = omega arith in
    ap (λ (f : ℕ). record (granted t i kind) { free = set t.free kind f }) e

-- a table stays one where it grants
pub granted_table : (t : Claims) (i kind : ℕ) → IsTable t → i < length t.rows → kind < length t.capacity → 0 < amount t.free kind → IsTable (granted t i kind)
granted_table t i kind h lt kc some =
    subst IsTable (granted_is t i kind some) (with_table t i kind (amount (row_at t.rows i).held kind + 1) (amount (row_at t.rows i).need kind - 1) h lt kc (omega arith))

pub need_ended_is : (t : Claims) (i kind : ℕ) → with_amounts t i kind (amount (row_at t.rows i).held kind) 0 ≡ need_ended t i kind
need_ended_is t i kind =
    let row = row_at t.rows i in
    let e : (amount t.free kind + amount row.held kind) - amount row.held kind ≡ amount t.free kind = omega arith in
    let f : set t.free kind (amount t.free kind) ≡ t.free = set-get_or t.free kind 0 in
    let s : set row.held kind (amount row.held kind) ≡ row.held = set-get_or row.held kind 0 in
    ap (λ (x : ℕ). record t { free = set t.free kind x; rows = set t.rows i (row_with (set row.held kind (amount row.held kind)) (set row.need kind 0) row) }) e
    ∙ (ap (λ (x : List ℕ). record t { free = x; rows = set t.rows i (row_with (set row.held kind (amount row.held kind)) (set row.need kind 0) row) }) f
    ∙ ap (λ (r : List ℕ). record t { rows = set t.rows i (row_with r (set row.need kind 0) row) }) s)

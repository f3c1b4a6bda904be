-- A scan of rows has one list of turns, and the check of an order one number of comparisons.
use Rattle.std.proofs.Common.{◌≡◌, ◌⊎◌, inl, inr, ℕ, ◌+◌, ◌<◌, ◌≤◌, List, [], ◌∷◌, length, refl, subst, ap, ap₂, sym, ◌∙◌, arith}
use Rattle.std.specs.Prelude.{remove}
use Rattle.std.proofs.lemmas.Bool.{cases_lt}
use Rattle.counts.specs.Amounts.{amount, Fits}
use Rattle.claims.specs.declared.row.Row.{Row}
use Rattle.claims.specs.Claims.{Claims, IsTable, Pairwise, IsLower, row_at}
use Rattle.claims.specs.Safety.{freed}
use Rattle.ordered_safety.specs.Compared.{GoesNext, AreTurns, scan_tests, ScanTakes, CheckTakes}
use Rattle.ordered_safety.specs.Carried.{AfterPageTakes, carried}
use Rattle.ordered_safety.proofs.Picks.{pair_at, same_place, rising_without}

goes_once : (free : ℕ → ℕ) (rows : List Row) (a b : ℕ) → GoesNext free rows a → GoesNext free rows b → a ≡ b
goes_once free rows a b g h =
    let below : a < b → ⊥ = λ lt. h.1 a lt g.0 in
    let above : b < a → ⊥ = λ lt. g.1 b lt h.0 in
    omega arith

turns_once : (free : ℕ → ℕ) (rows : List Row) (s t : List ℕ) → AreTurns free rows s → AreTurns free rows t → s ≡ t
turns_once free rows [] [] x y = refl
turns_once free rows [] (b ∷ t) x y = absurd (x b y.0.0)
turns_once free rows (a ∷ s) [] x y = absurd (y a x.0.0)
turns_once free rows (a ∷ s) (b ∷ t) x y =
    let e : b ≡ a = goes_once free rows b a y.0 x.0 in
    ap₂ (λ (i : ℕ) (l : List ℕ). i ∷ l) (sym e) (turns_once (freed free (row_at rows a)) (remove rows a) s t x.1 (rw e at y.1))

pub one_number : (free : ℕ → ℕ) (rows : List Row) (n m : ℕ) → ScanTakes free rows n → ScanTakes free rows m → n ≡ m
one_number free rows n m x y = x.2 ∙ (ap (scan_tests rows) (turns_once free rows x.0 y.0 x.1 y.1) ∙ sym y.2)

-- numbers rise with the places
pub low_upto : (rows : List Row) (i j : ℕ) → i ≤ j → j < length rows → Pairwise IsLower rows → (row_at rows i).number ≤ (row_at rows j).number
low_upto rows i j le lt low = elim (cases_lt i j) [
  | inl below ↦ let l = pair_at IsLower rows i j below lt low in omega arith
  | inr above ↦ let e : i ≡ j = omega arith in let n = ap (λ (k : ℕ). (row_at rows k).number) e in omega arith
]

-- the comparison of a row, and those of the others after it
abbrev pub Compares : (ℕ → ℕ) → Row → List Row → List ℕ → ℕ → Type 0
Compares free x others numbers tests =
    (¬ (Fits x.need free) × (tests ≡ 1))
    ⊎ (Fits x.need free × (later : ℕ) × (tests ≡ later + 1) × CheckTakes (freed free x) others numbers later)

pub one_of_order : (free : ℕ → ℕ) (rows : List Row) (numbers : List ℕ) (n m : ℕ) → Pairwise IsLower rows → CheckTakes free rows numbers n → CheckTakes free rows numbers m → n ≡ m
one_of_order free rows [] n m low x y = x ∙ sym y
one_of_order free rows (number ∷ numbers) n m low x y = elim x [
  | inl s ↦ elim y [ inl t ↦ s.1 ∙ sym t.1 | inr t ↦ absurd (s.0 t.0 t.1) ]
  | inr s ↦ elim y [
    | inl t ↦ absurd (t.0 s.0 s.1)
    | inr t ↦
        let same : t.0 ≡ s.0 = same_place rows t.0 s.0 t.1.there s.1.there low (t.1.numbered ∙ sym s.1.numbered) in
        let other = subst (λ (at : ℕ). Compares free (row_at rows at) (remove rows at) numbers m) same t.2 in
        elim s.2 [
          | inl over ↦ elim other [ inl over' ↦ over.1 ∙ sym over'.1 | inr goes ↦ absurd (over.0 goes.0) ]
          | inr goes ↦ elim other [
            | inl over ↦ absurd (over.0 goes.0)
            | inr goes' ↦
                let later = one_of_order (freed free (row_at rows s.0)) (remove rows s.0) numbers goes.1 goes'.1 (rising_without rows s.0 s.1.there low) goes.3 goes'.3 in
                let a = goes.2 in
                let b = goes'.2 in
                omega arith
          ]
        ]
  ]
]

-- and so has a decision on a page after a kept order
pub one_after_page : (t : Claims) (order : List ℕ) (n m : ℕ) → IsTable t → AfterPageTakes t order n → AfterPageTakes t order m → n ≡ m
one_after_page t order n m is x y = elim x [
  | inl s ↦ elim y [ inl u ↦ s.1 ∙ sym u.1 | inr u ↦ absurd (u.0 s.0) ]
  | inr s ↦ elim y [
    | inl u ↦ absurd (s.0 u.0)
    | inr u ↦
        let tried = one_of_order (amount t.free) t.rows (carried t.rows order) s.1 u.1 is.rising s.4 u.4 in
        let scanned = one_number (amount t.free) t.rows s.2 u.2 s.5 u.5 in
        let a = s.3 in
        let b = u.3 in
        omega arith
  ]
]

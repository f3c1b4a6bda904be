-- A printer goes on with the job that it began, or begins one of which no page was handed.
use Rattle.std.proofs.Common.{◌⊎◌, inl, inr, ◌≡◌, ◌==◌, ℕ, ◌+◌, ◌<◌, Bool, true, false, List, [], ◌∷◌, length, refl, sym, ◌∙◌, ap, subst, arith}
use Rattle.std.specs.Prelude.{◌&&◌, ◌||◌, cond, Option, Some, None}
use Rattle.std.proofs.lemmas.Bool.{cases_Bool}
use Rattle.spool_history.specs.Base.{Base}
use Rattle.spool_history.specs.Events.{Event, Sheet, Turn}
use Rattle.spool_history.specs.Events.Turn.{Handed, Printed, Failed}
use Rattle.spool_history.specs.Events.Event.{Opened, OfJob, AtPrinter, Removed, Started, Closed}
use Rattle.config_values.specs.Config.{Config}
use Rattle.spool_history.specs.Said.{began_at, is_handed}
use Rattle.spool_history.specs.Now.{now}
use Rattle.spool_history.specs.Legal.{IsLegal}
use Rattle.spool_laws.proofs.Known.{test, clash}
use Rattle.spool_laws.proofs.Facts.{Turn', count_one, count_more, facts, handed_at, handed_same, turn_of_page}
use Rattle.printer_sinks.specs.Runs.{AreApart, IsNew}
use Rattle.spool_visits.specs.Visits.{and_visit, visits_at, was_at}

abbrev first : List ℕ → Option ℕ
first [] = None
first (k ∷ ks) = Some k

first_of : (j : ℕ) (ks : List ℕ) → first (and_visit j ks) ≡ Some j
first_of j [] = refl
first_of j (k ∷ ks) = elim (test k j) [ inl s ↦ rw s.1 (ap (λ (i : ℕ). Some i) s.0) | inr s ↦ rw s.1 refl ]

-- the job that a printer began last is the one that it is at
head_is : {C : Type 0} (h : List (Event C)) (p : ℕ) → first (visits_at h p) ≡ began_at h p
head_is [] p = refl
head_is (AtPrinter q sheet turn ∷ h) p = elim (cases_Bool ((q == p) && is_handed turn)) [
  | inl e ↦ rw e (first_of sheet.job (visits_at h p))
  | inr e ↦ rw e (head_is h p)
]
head_is (Opened j s q ∷ h) p = head_is h p
head_is (OfJob j act ∷ h) p = head_is h p
head_is (Removed q jobs ∷ h) p = head_is h p
head_is (Started q ∷ h) p = head_is h p
head_is (Closed ∷ h) p = head_is h p

goes_on : (j : ℕ) (ks : List ℕ) → first ks ≡ Some j → and_visit j ks ≡ ks
goes_on j [] e = cc
goes_on j (k ∷ ks) e = elim (test k j) [ inl s ↦ rw s.1 refl | inr s ↦ absurd (s.0 (let z = e in cc)) ]

begins : (j : ℕ) (ks : List ℕ) → IsNew j ks → AreApart ks → AreApart (and_visit j ks)
begins j [] n a = (tt, tt)
begins j (k ∷ ks) n a = elim (test k j) [ inl s ↦ absurd (n.0 s.0) | inr s ↦ rw s.1 (n, a) ]

-- what a printer wasn't at, it doesn't come to again
new_to : (i j : ℕ) (ks : List ℕ) → (i ≡ j → ⊥) → IsNew j ks → IsNew j (and_visit i ks)
new_to i j [] ne n = (ne, tt)
new_to i j (k ∷ ks) ne n = elim (test k i) [ inl s ↦ rw s.1 n | inr s ↦ rw s.1 (ne, n) ]

or_false : (a b : Bool) → (a || b) ≡ false → (a ≡ false) × (b ≡ false)
or_false true b e = absurd (clash true refl e)
or_false false b e = (refl, e)

not_at : {C : Type 0} (h : List (Event C)) (p j : ℕ) → was_at h p j ≡ false → IsNew j (visits_at h p)
not_at [] p j e = tt
not_at (AtPrinter q sheet turn ∷ h) p j e =
    let parts = or_false (((q == p) && is_handed turn) && (sheet.job == j)) (was_at h p j) e in
    elim (cases_Bool ((q == p) && is_handed turn)) [
      | inl here ↦
          let ne : sheet.job ≡ j → ⊥ = λ same. elim (test sheet.job j) [ inl s ↦ clash (sheet.job == j) s.1 (rw here at parts.0) | inr s ↦ s.0 same ] in
          rw here (new_to sheet.job j (visits_at h p) ne (not_at h p j parts.1))
      | inr away ↦ rw away (not_at h p j parts.1)
    ]
not_at (Opened i s q ∷ h) p j e = not_at h p j e
not_at (OfJob i act ∷ h) p j e = not_at h p j e
not_at (Removed q jobs ∷ h) p j e = not_at h p j e
not_at (Started q ∷ h) p j e = not_at h p j e
not_at (Closed ∷ h) p j e = not_at h p j e

-- a page that was handed is counted
count_here : {C : Type 0} (h : List (Event C)) (q : ℕ) (sheet : Sheet C) (turn : Turn) (j : ℕ) → is_handed turn ≡ true → sheet.job ≡ j → 0 < handed_at (AtPrinter q sheet turn ∷ h) j
count_here h q sheet Handed j is e = let z = count_one h q sheet j e in omega arith
count_here h q sheet (Printed progress) j is e = absurd (clash true refl (sym is))
count_here h q sheet Failed j is e = absurd (clash true refl (sym is))

count_on : {C : Type 0} (h : List (Event C)) (q : ℕ) (sheet : Sheet C) (turn : Turn) (j : ℕ) → 0 < handed_at h j → 0 < handed_at (AtPrinter q sheet turn ∷ h) j
count_on h q sheet Handed j z = elim (test sheet.job j) [
  | inl s ↦ let more = count_one h q sheet j s.0 in omega arith
  | inr s ↦ let same = count_more h q sheet j s.0 in omega arith
]
count_on h q sheet (Printed progress) j z = let same = ap length (handed_same h q sheet (Printed progress) j refl) in omega arith
count_on h q sheet Failed j z = let same = ap length (handed_same h q sheet Failed j refl) in omega arith

and_both : (a b : Bool) → (a && b) ≡ true → (a ≡ true) × (b ≡ true)
and_both true b e = (refl, e)
and_both false b e = absurd (clash true refl (sym e))

or_either : (a b : Bool) → (a || b) ≡ true → (a ≡ true) ⊎ (b ≡ true)
or_either true b e = inl refl
or_either false b e = inr e

is_same : (i j : ℕ) → (i == j) ≡ true → i ≡ j
is_same i j e = elim (test i j) [ inl s ↦ s.0 | inr s ↦ absurd (clash (i == j) e s.1) ]

counted : {C : Type 0} (h : List (Event C)) (p j : ℕ) → was_at h p j ≡ true → 0 < handed_at h j
counted [] p j e = absurd (clash true refl (sym e))
counted (AtPrinter q sheet turn ∷ h) p j e = elim (or_either (((q == p) && is_handed turn) && (sheet.job == j)) (was_at h p j) e) [
  | inl here ↦
      let a = and_both ((q == p) && is_handed turn) (sheet.job == j) here in
      count_here h q sheet turn j (and_both (q == p) (is_handed turn) a.0).1 (is_same sheet.job j a.1)
  | inr there ↦ count_on h q sheet turn j (counted h p j there)
]
counted (Opened i s q ∷ h) p j e = counted h p j e
counted (OfJob i act ∷ h) p j e = counted h p j e
counted (Removed q jobs ∷ h) p j e = counted h p j e
counted (Started q ∷ h) p j e = counted h p j e
counted (Closed ∷ h) p j e = counted h p j e

uncounted : {C : Type 0} (h : List (Event C)) (p j : ℕ) → handed_at h j ≡ 0 → was_at h p j ≡ false
uncounted h p j z = elim (cases_Bool (was_at h p j)) [ inl e ↦ absurd (let some = counted h p j e in omega arith) | inr e ↦ e ]

-- the job that a printer began is one that it was at
began_here : {C : Type 0} (h : List (Event C)) (p j : ℕ) → began_at h p ≡ Some j → was_at h p j ≡ true
began_here [] p j e = cc
began_here (AtPrinter q sheet turn ∷ h) p j e = elim (cases_Bool ((q == p) && is_handed turn)) [
  | inl here ↦
      let same : Some sheet.job ≡ Some j = rw here at e in
      let is : sheet.job ≡ j = (let z = same in cc) in
      elim (test sheet.job j) [ inl s ↦ rw (here, s.1) refl | inr s ↦ absurd (s.0 is) ]
  | inr away ↦ let on = began_here h p j (rw away at e) in rw (away, on) refl
]
began_here (Opened i s q ∷ h) p j e = began_here h p j e
began_here (OfJob i act ∷ h) p j e = began_here h p j e
began_here (Removed q jobs ∷ h) p j e = began_here h p j e
began_here (Started q ∷ h) p j e = began_here h p j e
began_here (Closed ∷ h) p j e = began_here h p j e

-- each printer

apart_here : {C : Type 0} (h : List (Event C)) (p : ℕ) (sheet : Sheet C) → Turn' h p sheet → AreApart (visits_at h p) → AreApart (and_visit sheet.job (visits_at h p))
apart_here h p sheet t a = elim t.why [
  | inl b ↦ rw (goes_on sheet.job (visits_at h p) (head_is h p ∙ b)) a
  | inr z ↦ begins sheet.job (visits_at h p) (not_at h p sheet.job (uncounted h p sheet.job z.0)) a
]

pub each_once : {C : Type 0} (size : C → ℕ) (c : Config) (base : Base) (h : List (Event C)) → IsLegal size c base h → (p : ℕ) → AreApart (visits_at h p)
each_once size c base [] l p = tt
each_once {C} size c base (AtPrinter q sheet Handed ∷ h) l p = elim (test q p) [
  | inl s ↦
      let t : Turn' h p sheet = subst (λ (i : ℕ). Turn' h i sheet) s.0 (turn_of_page c base h q sheet l.0.0.0 l.0.0.1 l.0.1) in
      rw s.1 (apart_here h p sheet t (each_once size c base h l.1 p))
  | inr s ↦ rw s.1 (each_once size c base h l.1 p)
]
each_once size c base (AtPrinter q sheet (Printed progress) ∷ h) l p = elim (cases_Bool (q == p)) [ inl e ↦ rw e (each_once size c base h l.1 p) | inr e ↦ rw e (each_once size c base h l.1 p) ]
each_once size c base (AtPrinter q sheet Failed ∷ h) l p = elim (cases_Bool (q == p)) [ inl e ↦ rw e (each_once size c base h l.1 p) | inr e ↦ rw e (each_once size c base h l.1 p) ]
each_once size c base (Opened i s q ∷ h) l p = each_once size c base h l.1 p
each_once size c base (OfJob i act ∷ h) l p = each_once size c base h l.1 p
each_once size c base (Removed q jobs ∷ h) l p = each_once size c base h l.1 p
each_once size c base (Started q ∷ h) l p = each_once size c base h l.1 p
each_once size c base (Closed ∷ h) l p = each_once size c base h l.1 p

-- and no two of them

abbrev IsAlone : {C : Type 0} → List (Event C) → Type 0
IsAlone h = (p q j : ℕ) → was_at h p j ≡ true → was_at h q j ≡ true → p ≡ q

-- who was at the job of a page before it is handed is who is handed it
was_here : {C : Type 0} (h : List (Event C)) (r : ℕ) (sheet : Sheet C) → Turn' h r sheet → IsAlone h → (p : ℕ) → was_at h p sheet.job ≡ true → p ≡ r
was_here h r sheet t alone p e = elim t.why [
  | inl b ↦ alone p r sheet.job e (began_here h r sheet.job b)
  | inr z ↦ absurd (let some = counted h p sheet.job e in let none = z.0 in omega arith)
]

-- who was at a job after a page of it was handed
at_after : {C : Type 0} (h : List (Event C)) (r : ℕ) (sheet : Sheet C) (p j : ℕ) → was_at (AtPrinter r sheet Handed ∷ h) p j ≡ true → ((r ≡ p) × (sheet.job ≡ j)) ⊎ (was_at h p j ≡ true)
at_after h r sheet p j e = elim (or_either (((r == p) && true) && (sheet.job == j)) (was_at h p j) e) [
  | inl here ↦
      let a = and_both ((r == p) && true) (sheet.job == j) here in
      inl (is_same r p (and_both (r == p) true a.0).0, is_same sheet.job j a.1)
  | inr there ↦ inr there
]

alone_on : {C : Type 0} (h : List (Event C)) (r : ℕ) (sheet : Sheet C) → Turn' h r sheet → IsAlone h → IsAlone (AtPrinter r sheet Handed ∷ h)
alone_on {C} h r sheet t alone p q j e f = elim (at_after h r sheet p j e) [
  | inl a ↦ elim (at_after h r sheet q j f) [
    | inl b ↦ sym a.0 ∙ b.0
    | inr b ↦ sym a.0 ∙ sym (was_here h r sheet t alone q (subst (λ (i : ℕ). was_at h q i ≡ true) (sym a.1) b))
  ]
  | inr a ↦ elim (at_after h r sheet q j f) [
    | inl b ↦ was_here h r sheet t alone p (subst (λ (i : ℕ). was_at h p i ≡ true) (sym b.1) a) ∙ b.0
    | inr b ↦ alone p q j a b
  ]
]

back_at : {C : Type 0} (h : List (Event C)) (r : ℕ) (sheet : Sheet C) (turn : Turn) (p j : ℕ) → is_handed turn ≡ false → was_at (AtPrinter r sheet turn ∷ h) p j ≡ true → was_at h p j ≡ true
back_at h r sheet turn p j not' e = elim (or_either (((r == p) && is_handed turn) && (sheet.job == j)) (was_at h p j) e) [
  | inl here ↦ absurd (clash (is_handed turn) (and_both (r == p) (is_handed turn) (and_both ((r == p) && is_handed turn) (sheet.job == j) here).0).1 not')
  | inr there ↦ there
]

pub by_one : {C : Type 0} (size : C → ℕ) (c : Config) (base : Base) (h : List (Event C)) → IsLegal size c base h → IsAlone h
by_one size c base [] l p q j e f = absurd (clash true refl (sym e))
by_one size c base (AtPrinter r sheet Handed ∷ h) l p q j e f =
    alone_on h r sheet (turn_of_page c base h r sheet l.0.0.0 l.0.0.1 l.0.1) (by_one size c base h l.1) p q j e f
by_one size c base (AtPrinter r sheet (Printed progress) ∷ h) l p q j e f =
    by_one size c base h l.1 p q j (back_at h r sheet (Printed progress) p j refl e) (back_at h r sheet (Printed progress) q j refl f)
by_one size c base (AtPrinter r sheet Failed ∷ h) l p q j e f =
    by_one size c base h l.1 p q j (back_at h r sheet Failed p j refl e) (back_at h r sheet Failed q j refl f)
by_one size c base (Opened i s r ∷ h) l p q j e f = by_one size c base h l.1 p q j e f
by_one size c base (OfJob i act ∷ h) l p q j e f = by_one size c base h l.1 p q j e f
by_one size c base (Removed r jobs ∷ h) l p q j e f = by_one size c base h l.1 p q j e f
by_one size c base (Started r ∷ h) l p q j e f = by_one size c base h l.1 p q j e f
by_one size c base (Closed ∷ h) l p q j e f = by_one size c base h l.1 p q j e f

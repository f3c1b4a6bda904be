-- The places of a job leave in order.
use Rattle.std.proofs.Common.{inl, inr, ◌≡◌, ℕ, zero, suc, ◌+◌, false, List, [], ◌∷◌, ◌++◌, length, take, drop, refl, sym, ◌∙◌, ap, subst, arith}
use Rattle.std.proofs.lemmas.List.{length_push, nil_from_length}
use Rattle.spool_history.specs.Base.{Base}
use Rattle.spool_history.specs.Events.{Act, Event, Sheet, Turn}
use Rattle.spool_history.specs.Events.Act.{Granted, Aborted}
use Rattle.spool_history.specs.Events.Turn.{Handed}
use Rattle.spool_history.specs.Events.Event.{OfJob, AtPrinter}
use Rattle.config_values.specs.Config.{Config}
use Rattle.spool_history.specs.Acts.{Page}
use Rattle.spool_history.specs.Said.{handed_of, is_handed}
use Rattle.spool_history.specs.Now.{now}
use Rattle.spool_history.specs.Legal.{IsLegal, May}
use Rattle.spool_laws.specs.Leaving.{places_of, sheets}
use Rattle.spool_laws.proofs.Known.{has_at, test}
use Rattle.spool_laws.proofs.Facts.{facts, Turn', turn_of_page, handed_at, handed_one, handed_more, handed_same}

sheets_last : {C : Type 0} (j n : ℕ) (xs : List (Page C)) (x : Page C) → sheets j n (xs ++ x ∷ []) ≡ sheets j n xs ++ record { job = j; place = n + length xs; file = x.file; number = x.number; page = x.page } ∷ []
sheets_last {C} j n [] x =
    let f : ℕ → List (Sheet C) = λ m. record { job = j; place = m; file = x.file; number = x.number; page = x.page } ∷ [] in
    let e : n ≡ n + 0 = omega arith in
    ap f e
sheets_last {C} j n (y ∷ xs) x =
    let e : (n + 1) + length xs ≡ n + suc (length xs) = omega arith in
    let f : List (Sheet C) → List (Sheet C) = λ l. record { job = j; place = n; file = y.file; number = y.number; page = y.page } ∷ l in
    ap f (sheets_last j (n + 1) xs x ∙ ap (λ (m : ℕ). sheets j (n + 1) xs ++ record { job = j; place = m; file = x.file; number = x.number; page = x.page } ∷ []) e)

take_one : {X : Type 0} (n : ℕ) (xs : List X) (page : X) (rest : List X) → drop n xs ≡ page ∷ rest → (take (n + 1) xs ≡ take n xs ++ page ∷ []) × (length (take n xs) ≡ n)
take_one zero [] page rest e = absurd cc
take_one zero (x ∷ xs) page rest e = (cc, refl)
take_one (suc n) [] page rest e = absurd cc
take_one {X} (suc n) (x ∷ xs) page rest e =
    let ih = take_one n xs page rest e in
    let m : suc n + 1 ≡ suc (n + 1) = omega arith in
    (rw m (ap (λ (l : List X). x ∷ l) ih.0), ap suc ih.1)

abbrev Placed : {C : Type 0} → List (Event C) → Type 0
Placed h = (j : ℕ) → handed_of h j ≡ sheets j 0 (take (handed_at h j) (places_of h j))

abbrev PlacedAs : {C : Type 0} → List (Sheet C) → ℕ → List (Page C) → Type 0
PlacedAs l j ps = l ≡ sheets j 0 (take (length l) ps)

-- while a job is received nothing of it is handed
placed_act : {C : Type 0} (h : List (Event C)) (k : ℕ) (act : Act C) → handed_at h k ≡ 0 → Placed h → Placed (OfJob k act ∷ h)
placed_act {C} h k act none f j = elim (test k j) [
  | inl s ↦
      let z : handed_of h j ≡ [] = nil_from_length (handed_of h j) (subst (λ (i : ℕ). handed_at h i ≡ 0) s.0 none) in
      subst (λ (l : List (Sheet C)). PlacedAs l j (places_of (OfJob k act ∷ h) j)) (sym z) refl
  | inr s ↦ rw s.1 (f j)
]

placed_aborted : {C : Type 0} (h : List (Event C)) (k : ℕ) → Placed h → Placed (OfJob k Aborted ∷ h)
placed_aborted h k f j = elim (test k j) [ inl r ↦ rw r.1 (f j) | inr r ↦ rw r.1 (f j) ]

-- one more page, which is the next place
placed_next : {C : Type 0} (l : List (Sheet C)) (s : Sheet C) (j : ℕ) (ps later : List (Page C)) (x : Page C) → drop (length l) ps ≡ x ∷ later
    → s ≡ record { job = j; place = length l; file = x.file; number = x.number; page = x.page } → PlacedAs l j ps → PlacedAs (l ++ s ∷ []) j ps
placed_next {C} l s j ps later x left is f =
    let one = take_one (length l) ps x later left in
    let place : length l ≡ 0 + length (take (length l) ps) = (let b = one.1 in omega arith) in
    let n : length (l ++ s ∷ []) ≡ length l + 1 = length_push l s in
    ap (λ (l' : List (Sheet C)). l' ++ s ∷ []) f
    ∙ (ap (λ (s' : Sheet C). sheets j 0 (take (length l) ps) ++ s' ∷ []) is
    ∙ (ap (λ (m : ℕ). sheets j 0 (take (length l) ps) ++ record { job = j; place = m; file = x.file; number = x.number; page = x.page } ∷ []) place
    ∙ (sym (sheets_last j 0 (take (length l) ps) x) ∙ (ap (sheets j 0) (sym one.0) ∙ ap (λ (m : ℕ). sheets j 0 (take m ps)) (sym n)))))

placed_handed : {C : Type 0} (h : List (Event C)) (p : ℕ) (sheet : Sheet C) → Turn' h p sheet → Placed h → Placed (AtPrinter p sheet Handed ∷ h)
placed_handed {C} h p sheet t f j = elim (test sheet.job j) [
  | inl s ↦
      let g = t.at.is in
      let here : PlacedAs (handed_of h sheet.job ++ sheet ∷ []) sheet.job (places_of h sheet.job) = placed_next (handed_of h sheet.job) sheet sheet.job (places_of h sheet.job) g.later g.page g.left g.is (f sheet.job) in
      let there : PlacedAs (handed_of h j ++ sheet ∷ []) j (places_of h j) = subst (λ (i : ℕ). PlacedAs (handed_of h i ++ sheet ∷ []) i (places_of h i)) s.0 here in
      subst (λ (l : List (Sheet C)). PlacedAs l j (places_of h j)) (sym (handed_one h p sheet j s.0)) there
  | inr s ↦ subst (λ (l : List (Sheet C)). PlacedAs l j (places_of h j)) (sym (handed_more h p sheet j s.0)) (f j)
]

placed_back : {C : Type 0} (h : List (Event C)) (p : ℕ) (sheet : Sheet C) (turn : Turn) → is_handed turn ≡ false → Placed h → Placed (AtPrinter p sheet turn ∷ h)
placed_back {C} h p sheet turn is f j = subst (λ (l : List (Sheet C)). PlacedAs l j (places_of h j)) (sym (handed_same h p sheet turn j is)) (f j)

placed_step : {C : Type 0} (size : C → ℕ) (c : Config) (base : Base) (h : List (Event C)) (e : Event C) → IsLegal size c base h → May size (now c base h) e → Placed h → Placed (e ∷ h)
placed_step size c base h (OfJob k Granted) l m f = placed_act h k Granted ((facts size c base h l).begun k (has_at c base h k _ m.0).is.0.0.1) f
placed_step size c base h (OfJob k Aborted) l m f = placed_aborted h k f
placed_step size c base h (OfJob k act) l m f = placed_act h k act ((facts size c base h l).begun k (has_at c base h k _ m.0).is.0.1) f
placed_step size c base h (AtPrinter p sheet Handed) l m f = placed_handed h p sheet (turn_of_page c base h p sheet m.0.0 m.0.1 m.1) f
placed_step size c base h (AtPrinter p sheet turn) l m f = placed_back h p sheet turn refl f
placed_step size c base h _ l m f = f

pub placed : {C : Type 0} (size : C → ℕ) (c : Config) (base : Base) (h : List (Event C)) → IsLegal size c base h → (j : ℕ) → handed_of h j ≡ sheets j 0 (take (length (handed_of h j)) (places_of h j))
placed size c base [] l = λ j. refl
placed size c base (e ∷ h) l = placed_step size c base h e l.1 l.0 (placed size c base h l.1)

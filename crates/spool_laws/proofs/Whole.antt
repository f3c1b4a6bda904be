-- Of a job that is done each place was handed.
use Rattle.std.proofs.Common.{inl, inr, ◌≡◌, ◌≢◌, ℕ, true, false, List, [], ◌∷◌, length, take, refl, sym, ◌∙◌, ap, subst, arith}
use Rattle.std.proofs.Math.Seq.{take-length}
use Rattle.std.proofs.lemmas.Bool.{or_right}
use Rattle.spool_history.specs.Base.{Base}
use Rattle.spool_history.specs.Events.{Act, Event, Sheet, Turn}
use Rattle.spool_history.specs.Events.Act.{Granted, Aborted}
use Rattle.spool_history.specs.Events.Progress.{Done}
use Rattle.spool_history.specs.Events.Turn.{Handed, Printed}
use Rattle.spool_history.specs.Events.Event.{OfJob, AtPrinter, Removed, Closed}
use Rattle.config_values.specs.Config.{Config}
use Rattle.spool_history.specs.Said.{handed_of, is_handed, has_ended, ends, is_done}
use Rattle.spool_history.specs.Now.{now}
use Rattle.spool_history.specs.Legal.{IsLegal, May}
use Rattle.spool_laws.specs.Leaving.{places_of, sheets}
use Rattle.spool_laws.proofs.Known.{has_at, test, clash}
use Rattle.spool_laws.proofs.Facts.{facts, is_out, Turn', turn_of_page, handed_at, handed_more, handed_same}
use Rattle.spool_laws.proofs.Says.{says}
use Rattle.spool_laws.proofs.Places.{placed}

pub still_ended : {C : Type 0} (h : List (Event C)) (e : Event C) (j : ℕ) → has_ended h j ≡ true → has_ended (e ∷ h) j ≡ true
still_ended h e j is = or_right (ends j e) (has_ended h j) is

-- it has ended, and each place was handed
abbrev pub WholeAt : {C : Type 0} → List (Event C) → ℕ → Type 0
WholeAt h j = (has_ended h j ≡ true) × (handed_at h j ≡ length (places_of h j))

abbrev pub Whole : {C : Type 0} → List (Event C) → Type 0
Whole h = (j : ℕ) → is_done h j ≡ true → WholeAt h j

same_places : {C : Type 0} (h : List (Event C)) (k : ℕ) (act : Act C) (j : ℕ) → k ≢ j → places_of (OfJob k act ∷ h) j ≡ places_of h j
same_places h k act j ne = elim (test k j) [ inl s ↦ absurd (ne s.0) | inr s ↦ rw s.1 refl ]

whole_act : {C : Type 0} (h : List (Event C)) (k : ℕ) (act : Act C) → (has_ended h k ≡ true → places_of (OfJob k act ∷ h) k ≡ places_of h k) → Whole h → Whole (OfJob k act ∷ h)
whole_act {C} h k act before w j e =
    let i = w j e in
    let places' : places_of (OfJob k act ∷ h) j ≡ places_of h j = elim (test k j) [
      | inl s ↦ subst (λ (i : ℕ). places_of (OfJob k act ∷ h) i ≡ places_of h i) s.0 (before (subst (λ (i : ℕ). has_ended h i ≡ true) (sym s.0) i.0))
      | inr s ↦ same_places h k act j s.0
    ] in
    (still_ended h (OfJob k act) j i.0, i.1 ∙ ap length (sym places'))

aborted_places : {C : Type 0} (h : List (Event C)) (k : ℕ) → places_of (OfJob k Aborted ∷ h) k ≡ places_of h k
aborted_places h k = elim (test k k) [ inl r ↦ rw r.1 refl | inr r ↦ rw r.1 refl ]

whole_handed : {C : Type 0} (h : List (Event C)) (p : ℕ) (sheet : Sheet C) → Turn' h p sheet → Whole h → Whole (AtPrinter p sheet Handed ∷ h)
whole_handed {C} h p sheet t w j e =
    let i = w j e in
    elim (test sheet.job j) [
      | inl s ↦ absurd (clash (has_ended h j) i.0 (subst (λ (i : ℕ). has_ended h i ≡ false) s.0 t.at.is.goes_on))
      | inr s ↦ (still_ended h (AtPrinter p sheet Handed) j i.0, ap length (handed_more h p sheet j s.0) ∙ i.1)
    ]

whole_back : {C : Type 0} (h : List (Event C)) (p : ℕ) (sheet : Sheet C) (turn : Turn) (j : ℕ) → is_handed turn ≡ false → WholeAt h j → WholeAt (AtPrinter p sheet turn ∷ h) j
whole_back h p sheet turn j is i = (still_ended h (AtPrinter p sheet turn) j i.0, ap length (handed_same h p sheet turn j is) ∙ i.1)

whole_done : {C : Type 0} (size : C → ℕ) (c : Config) (base : Base) (h : List (Event C)) (p : ℕ) (sheet : Sheet C) → IsLegal size c base h → May size (now c base h) (AtPrinter p sheet (Printed Done)) → Whole h → Whole (AtPrinter p sheet (Printed Done) ∷ h)
whole_done {C} size c base h p sheet l m w j e =
    let last = ((says size c base h p sheet Done l m).done.0 refl).1 in
    let out = (facts size c base h l).out p sheet (is_out c base h p sheet m.0 m.1.0) in
    let full : handed_at h sheet.job ≡ length (places_of h sheet.job) = omega arith in
    elim (test sheet.job j) [
      | inl s ↦ (rw s.1 refl, ap length (handed_same h p sheet (Printed Done) j refl) ∙ subst (λ (i : ℕ). handed_at h i ≡ length (places_of h i)) s.0 full)
      | inr s ↦ whole_back h p sheet (Printed Done) j refl (w j (rw s.1 at e))
    ]

whole_step : {C : Type 0} (size : C → ℕ) (c : Config) (base : Base) (h : List (Event C)) (e : Event C) → IsLegal size c base h → May size (now c base h) e → Whole h → Whole (e ∷ h)
whole_step size c base h (OfJob k Granted) l m w = whole_act h k Granted (λ e. absurd (clash (has_ended h k) e (has_at c base h k _ m.0).is.0.0.0)) w
whole_step size c base h (OfJob k Aborted) l m w = whole_act h k Aborted (λ e. aborted_places h k) w
whole_step size c base h (OfJob k act) l m w = whole_act h k act (λ e. absurd (clash (has_ended h k) e (has_at c base h k _ m.0).is.0.0)) w
whole_step size c base h (AtPrinter p sheet Handed) l m w = whole_handed h p sheet (turn_of_page c base h p sheet m.0.0 m.0.1 m.1) w
whole_step size c base h (AtPrinter p sheet (Printed Done)) l m w = whole_done size c base h p sheet l m w
whole_step size c base h (AtPrinter p sheet turn) l m w = λ j e. whole_back h p sheet turn j refl (w j e)
whole_step size c base h (Removed q jobs) l m w = λ j e. (still_ended h (Removed q jobs) j (w j e).0, (w j e).1)
whole_step size c base h Closed l m w = λ j e. (refl, (w j e).1)
whole_step size c base h _ l m w = w

pub whole : {C : Type 0} (size : C → ℕ) (c : Config) (base : Base) (h : List (Event C)) → IsLegal size c base h → Whole h
whole size c base [] l = λ j e. absurd cc
whole size c base (e ∷ h) l = whole_step size c base h e l.1 l.0 (whole size c base h l.1)

pub all_placed : {C : Type 0} (size : C → ℕ) (c : Config) (base : Base) (h : List (Event C)) → IsLegal size c base h → (j : ℕ) → is_done h j ≡ true → handed_of h j ≡ sheets j 0 (places_of h j)
all_placed size c base h l j e =
    placed size c base h l j ∙ (ap (λ (m : ℕ). sheets j 0 (take m (places_of h j))) (whole size c base h l j e).1 ∙ ap (sheets j 0) (take-length (places_of h j)))

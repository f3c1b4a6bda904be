-- A visit to a job, page after page.
use Rattle.std.proofs.Common.{◌≡◌, ◌<◌, ◌≤◌, inl, inr, ℕ, Bool, true, false, List, [], ◌∷◌, ◌++◌, Option, Some, None, length, take, ◌==◌, if◌then◌else◌, refl, ap, sym, ◌∙◌, subst, arith, append_assoc}
use Rattle.std.proofs.lemmas.List.{append-nil, take_all}
use Rattle.std.proofs.lemmas.Bool.Decides.{nat_tests}
use Rattle.std.proofs.lemmas.Grind.{common_steps}
use Rattle.printer_sinks.proofs.ConnectionLemmas.{is_new}
use Rattle.std.proofs.lemmas.Bool.{cases_eq, eq-eqb}
use Rattle.printer_sinks.specs.Connections.{Connection, told, new_connection, longer, sent, stage_for, stage_after, Desk, Adds}
use Rattle.printer_sinks.specs.Visits.{Given, Visits, at_rest, told_ok, Begins, AddsOne}
use Rattle.printer_sinks.specs.declared.stage.SinkStage.{SinkStage}
use Rattle.printer_sinks.specs.declared.stage.SinkStage.TheVariants.{Idle, Sending, Lost}

-- where a sink is after these pages of a job
abbrev AtStage : SinkStage → (job : ℕ) → List Given → (base : List Connection) → Option (List Connection) → Type 0
AtStage Idle job pages base connections = (connections ≡ Some base) × (told_ok pages ≡ [])
AtStage (Sending j) job pages base connections = (j ≡ job) × (connections ≡ Some (new_connection job (told_ok pages) base))
AtStage (Lost j) job pages base connections = (j ≡ job) × (part : List ℕ) × (connections ≡ Some (new_connection job (told_ok pages ++ part) base)) × Begins part pages

yes_step : (b : Bool) (first octets more some : List ℕ) → more ≡ some ++ octets → (if b then first ++ more else more) ≡ (if b then first ++ some else some) ++ octets
yes_step true first octets more some h = ap (λ (s : List ℕ). first ++ s) h ∙ sym (append_assoc first some octets)
yes_step false first octets more some h = h

told_ok-yes : (pages : List Given) (octets : List ℕ) (ok : Bool) → ok ≡ true → told_ok (pages ++ record { octets = octets; ok = ok } ∷ []) ≡ told_ok pages ++ octets
told_ok-yes pages octets false h = cc
told_ok-yes [] octets true h = append-nil octets
told_ok-yes (page ∷ pages) octets true h = yes_step page.ok page.octets octets _ (told_ok pages) (told_ok-yes pages octets true refl)

no_step : (b : Bool) (first more some : List ℕ) → more ≡ some → (if b then first ++ more else more) ≡ (if b then first ++ some else some)
no_step b first more some h = ap (λ (s : List ℕ). if b then first ++ s else s) h

told_ok-no : (pages : List Given) (octets : List ℕ) (ok : Bool) → ok ≡ false → told_ok (pages ++ record { octets = octets; ok = ok } ∷ []) ≡ told_ok pages
told_ok-no pages octets true h = cc
told_ok-no [] octets false h = refl
told_ok-no (page ∷ pages) octets false h = no_step page.ok page.octets _ (told_ok pages) (told_ok-no pages octets false refl)

-- a page with no octets adds none
told_ok-none : (pages : List Given) (octets : List ℕ) (ok : Bool) → (ok ≡ true → octets ≡ []) → told_ok (pages ++ record { octets = octets; ok = ok } ∷ []) ≡ told_ok pages
told_ok-none pages octets true h = told_ok-yes pages octets true refl ∙ ap (λ (s : List ℕ). told_ok pages ++ s) (h refl) ∙ append-nil (told_ok pages)
told_ok-none pages octets false h = told_ok-no pages octets false refl

Begins-more : (part : List ℕ) (pages : List Given) (page : Given) → Begins part pages → Begins part (pages ++ page ∷ [])
Begins-more part [] page h = absurd h
Begins-more part (first ∷ pages) page (inl h) = inl h
Begins-more part (first ∷ pages) page (inr h) = inr (Begins-more part pages page h)

Begins-last : (pages : List Given) (octets : List ℕ) (ok : Bool) (n : ℕ) → ok ≡ false → Begins (take n octets) (pages ++ record { octets = octets; ok = ok } ∷ [])
Begins-last [] octets ok n h = inl (h, (n, refl))
Begins-last (first ∷ pages) octets ok n h = inr (Begins-last pages octets ok n h)

no_octet : (octets : List ℕ) (ok : Bool) → ok ≡ (0 == length octets) → ok ≡ true → octets ≡ []
no_octet [] ok h is = refl
no_octet (x ∷ octets) ok h is = grind (arith, nat_tests)

module _ (job : ℕ) (pages : List Given) (base : List Connection) (octets : List ℕ) (ok : Bool) (n : ℕ) (within : n ≤ length octets) (whole : ok ≡ (n == length octets)) where
  all_pages : List Given
  all_pages = pages ++ record { octets = octets; ok = ok } ∷ []

  is_told : n ≡ length octets → ok ≡ true
  is_told h = whole ∙ eq-eqb _ _ h

  is_not : (n ≡ length octets → ⊥) → ok ≡ false
  is_not h = grind (arith, nat_tests)

  none_told : n ≡ 0 → told_ok (pages ++ record { octets = octets; ok = ok } ∷ []) ≡ told_ok pages
  none_told zero = told_ok-none pages octets ok (no_octet octets ok (whole ∙ ap (λ (k : ℕ). k == length octets) zero))

  taken : (n ≡ 0 → ⊥) → 0 < length (take n octets)
  taken some = grind (arith, common_steps)

  idle_step : told_ok pages ≡ [] → AtStage (stage_after Idle job n (length octets)) job (pages ++ record { octets = octets; ok = ok } ∷ []) base (Some (sent Idle job (take n octets) base))
  idle_step none = elim (cases_eq n 0) [
    | inl zero ↦
        let same : stage_after Idle job n (length octets) ≡ Idle = grind (arith, nat_tests) in
        let connections : sent Idle job (take n octets) base ≡ base = ap (λ (k : ℕ). sent Idle job (take k octets) base) zero in
        let P : SinkStage → Type 0 = λ s. AtStage s job (pages ++ record { octets = octets; ok = ok } ∷ []) base (Some (sent Idle job (take n octets) base)) in
        subst P (sym same) (ap Some connections, none_told zero ∙ none)
    | inr some ↦ elim (cases_eq n (length octets)) [
      | inl all ↦
          let stage : stage_after Idle job n (length octets) ≡ Sending job = grind (arith, nat_tests) in
          let P : SinkStage → Type 0 = λ s. AtStage s job (pages ++ record { octets = octets; ok = ok } ∷ []) base (Some (sent Idle job (take n octets) base)) in
          let took : take n octets ≡ told_ok (pages ++ record { octets = octets; ok = ok } ∷ []) =
          take_all n octets (omega arith) ∙ ap (λ (s : List ℕ). s ++ octets) (sym none) ∙ sym (told_ok-yes pages octets ok (is_told all)) in
          subst P (sym stage) (refl, ap Some (is_new job (take n octets) base (taken some) ∙ ap (λ (s : List ℕ). new_connection job s base) took))
      | inr part ↦
          let stage : stage_after Idle job n (length octets) ≡ Lost job = grind (arith, nat_tests) in
          let P : SinkStage → Type 0 = λ s. AtStage s job (pages ++ record { octets = octets; ok = ok } ∷ []) base (Some (sent Idle job (take n octets) base)) in
          let took : take n octets ≡ told_ok (pages ++ record { octets = octets; ok = ok } ∷ []) ++ take n octets =
          ap (λ (s : List ℕ). s ++ take n octets) (sym (told_ok-no pages octets ok (is_not part) ∙ none)) in
          subst P (sym stage) (refl, take n octets, ap Some (is_new job (take n octets) base (taken some) ∙ ap (λ (s : List ℕ). new_connection job s base) took), Begins-last pages octets ok n (is_not part))
    ]
  ]

  sending_step : AtStage (stage_after (Sending job) job n (length octets)) job (pages ++ record { octets = octets; ok = ok } ∷ []) base (Some (longer (take n octets) (new_connection job (told_ok pages) base)))
  sending_step = elim (cases_eq n (length octets)) [
    | inl all ↦
        let stage : stage_after (Sending job) job n (length octets) ≡ Sending job = grind (arith, nat_tests) in
        let P : SinkStage → Type 0 = λ s. AtStage s job (pages ++ record { octets = octets; ok = ok } ∷ []) base (Some (longer (take n octets) (new_connection job (told_ok pages) base))) in
        let took : told_ok pages ++ take n octets ≡ told_ok (pages ++ record { octets = octets; ok = ok } ∷ []) =
        ap (λ (s : List ℕ). told_ok pages ++ s) (take_all n octets (omega arith)) ∙ sym (told_ok-yes pages octets ok (is_told all)) in
        subst P (sym stage) (refl, ap (λ (s : List ℕ). Some (new_connection job s base)) took)
    | inr part ↦
        let stage : stage_after (Sending job) job n (length octets) ≡ Lost job = grind (arith, nat_tests) in
        let P : SinkStage → Type 0 = λ s. AtStage s job (pages ++ record { octets = octets; ok = ok } ∷ []) base (Some (longer (take n octets) (new_connection job (told_ok pages) base))) in
        let took : told_ok pages ++ take n octets ≡ told_ok (pages ++ record { octets = octets; ok = ok } ∷ []) ++ take n octets =
        ap (λ (s : List ℕ). s ++ take n octets) (sym (told_ok-no pages octets ok (is_not part))) in
        subst P (sym stage) (refl, take n octets, ap (λ (s : List ℕ). Some (new_connection job s base)) took, Begins-last pages octets ok n (is_not part))
  ]

  lost_step : n ≡ 0 → (part : List ℕ) → Begins part pages → AtStage (Lost job) job (pages ++ record { octets = octets; ok = ok } ∷ []) base (Some (new_connection job (told_ok pages ++ part) base))
  lost_step zero part begins =
      (refl, part, ap (λ (s : List ℕ). Some (new_connection job (s ++ part) base)) (sym (none_told zero)), Begins-more part pages _ begins)

-- the stage is of this job
stage_same : (job j : ℕ) → j ≡ job → (stage_for job (Sending j) ≡ Sending job) × (stage_for job (Lost j) ≡ Lost job)
stage_same job j h = (grind (arith, nat_tests), grind (arith, nat_tests))

step_at : (stage : SinkStage) (job : ℕ) (pages : List Given) (base : List Connection) (octets : List ℕ) (ok : Bool) (n : ℕ) (connections : Option (List Connection)) (new : Desk) → AtStage stage job pages base connections → Adds n job octets (stage_for job stage) connections new → ok ≡ (n == length octets) → AtStage new.stage job (pages ++ record { octets = octets; ok = ok } ∷ []) base new.connections
step_at Idle job pages base octets ok n connections new (is, none) adds whole =
    let to : new.connections ≡ Some (sent Idle job (take n octets) base) = adds.connections ∙ ap (told (sent Idle job (take n octets))) is in
    rw (adds.stage, to) (idle_step job pages base octets ok n adds.size whole none)
step_at (Sending j) job pages base octets ok n connections new (of, is) adds whole =
    let adds_of : Adds n job octets (Sending job) connections new = subst (λ s. Adds n job octets s connections new) (stage_same job j of).0 adds in
    let to : new.connections ≡ Some (longer (take n octets) (new_connection job (told_ok pages) base)) = adds_of.connections ∙ ap (told (longer (take n octets))) is in
    rw (adds_of.stage, to) (sending_step job pages base octets ok n adds_of.size whole)
step_at (Lost j) job pages base octets ok n connections new (of, part, is, begins) adds whole =
    let adds_of : Adds n job octets (Lost job) connections new = subst (λ s. Adds n job octets s connections new) (stage_same job j of).1 adds in
    let to : new.connections ≡ Some (new_connection job (told_ok pages ++ part) base) = adds_of.connections ∙ told_same connections ∙ is in
    let zero : n ≡ 0 = omega (arith, adds_of.size) in
    rw (adds_of.stage, to) (lost_step job pages base octets ok n (omega (arith, zero)) whole zero part begins)
  where
    told_same : (o : Option (List Connection)) → told (λ ls. ls) o ≡ o
    told_same None = refl
    told_same (Some ls) = refl

run_at : (job : ℕ) (before after : List Given) (base : List Connection) (old new : Desk) → AtStage old.stage job before base old.connections → Visits job after old new → AtStage new.stage job (before ++ after) base new.connections
run_at job before [] base old new at same = rw (same, append-nil before) at
run_at job before (page ∷ after) base old new at (mid, (n, adds, whole), rest) =
    let next = step_at old.stage job before base page.octets page.ok n old.connections mid at adds whole in
    let all = run_at job (before ++ page ∷ []) after base mid new next rest in
    let P : List Given → Type 0 = λ ps. AtStage new.stage job ps base new.connections in
    subst P (append_assoc before (page ∷ []) after) all

added : (stage : SinkStage) (job : ℕ) (pages : List Given) (base : List Connection) (connections : Option (List Connection)) → AtStage stage job pages base connections → AddsOne job pages base connections
added Idle job pages base connections at = inl at
added (Sending j) job pages base connections (of, is) = inr (told_ok pages, is, inl refl)
added (Lost j) job pages base connections (of, part, is, begins) = inr (told_ok pages ++ part, is, inr (part, refl, begins))

pub visit_adds_one : (job : ℕ) (pages : List Given) (connections : List Connection) (new : Desk) → Visits job pages (at_rest connections) new → AddsOne job pages connections new.connections
visit_adds_one job pages connections new visits = added new.stage job pages connections new.connections (run_at job [] pages connections (at_rest connections) new (refl, refl) visits)

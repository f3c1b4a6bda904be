-- Jobs are removed by their numbers.
use Rattle.std.proofs.Common.{◌⊎◌, ◌≡◌, ◌≢◌, ◌<◌, ◌≤◌, ◌+◌, ◌-◌, ℕ, Bool, true, false, cond, List, [], ◌∷◌, length, get_or, refl, sym, ◌∙◌, ap, subst, inl, inr, arith}
use Rattle.std.proofs.lemmas.Bool.{cases_lt}
use Rattle.std.proofs.lemmas.List.Elements.{All-from_get_or, recursion_from_All}
use Rattle.held_jobs.specs.declared.phase.Phase.TheVariants.{Receiving, Received, Ended}
use Rattle.held_jobs.specs.Jobs.{Facts}
use Rattle.spool_history.specs.Base.{Base}
use Rattle.spool_history.specs.Events.{Event}
use Rattle.spool_history.specs.Events.Event.{Removed}
use Rattle.spool_history.specs.Now.{Job, State, is_received}
use Rattle.spool_history.specs.Legal.{HasJob, May, MayBeRemoved}
use Rattle.spool_history.specs.Refusals.{TakesJobs}
use Rattle.step_lemmas.proofs.HeldJobs.Standing.{has_here, has_job}
use Rattle.spool_calls.specs.Looks.{Detail, What, size}
use Rattle.spool_calls.specs.Kept.{Kept, Leaves, left_by, phase_of}
use Rattle.step_lemmas.proofs.Cores.Leaving.{Found, none_has, sees, look_at}
use Rattle.spool_core.specs.Halves.{MayRemove}
use Rattle.spool_core.specs.Removal.{FallsAt, GoesIn, IsFirstLeft, IsRemovable, RunsTo, StaysIn, StopsAt}

received_by : (e r : Bool) → cond e Ended (cond r Received Receiving) ≡ Received → (r ≡ true) × (e ≡ false)
received_by true r s = absurd (cc)
received_by false true s = (refl, refl)
received_by false false s = absurd (cc)

phase_received : {C : Type 0} (x : Job C) → is_received x ≡ true → x.ended ≡ false → phase_of x ≡ Received
phase_received x r e = rw (e, r) refl

some : (numbers : List ℕ) → numbers ≢ [] → 0 < length numbers
some [] ne = absurd (ne refl)
some (n ∷ ns) ne = omega arith

-- one number more
pub one_more : (P : ℕ → Type 0) (numbers : List ℕ) (at : ℕ) → RunsTo P numbers at → (0 < at → get_or numbers (at - 1) 0 < get_or numbers at 0) → P (get_or numbers at 0) → RunsTo P numbers (at + 1)
one_more P numbers at r up here =
    let number : ℕ → ℕ = λ m. get_or numbers m 0 in
    record {
      rises = λ k lt. elim (cases_lt (k + 1) at) [
        | inl x ↦ r.rises k x
        | inr y ↦
            let e : k + 1 ≡ at = omega arith in
            let f : at - 1 ≡ k = omega arith in
            let u : number (at - 1) < number at = up (omega arith) in
            omega (arith, u, ap number e, ap number f)
      ];
      each = λ k lt. elim (cases_lt k at) [
        | inl x ↦ r.each k x
        | inr y ↦ let e : at ≡ k = omega arith in subst (λ (m : ℕ). P (number m)) e here
      ];
    }

module _ (d : Detail) (b : Base) (h : List (Event (What d))) (k : Kept) (l : Leaves d b h k) where
  abbrev v : State (What d)
  v = left_by d b h k

  goes : (q n : ℕ) → GoesIn k.book q n → IsRemovable d b h k q n
  goes q n (i, lt, same, is) =
      let s = sees d b h k n i l (record { there = lt; number' = same }) in
      let x = (look_at d b h k i).x in
      let p = received_by x.ended (is_received x) (sym (ap (λ (g : Facts). g.phase) s.facts) ∙ is.1) in
      has_job v i n (MayBeRemoved q) s.stands (sym (ap (λ (g : Facts). g.queue) s.facts) ∙ is.0, p.0, p.1)

  stays : (q n : ℕ) → StaysIn k.book q n → IsRemovable d b h k q n → ⊥
  stays q n (inl none) m = none_has d b h k n (MayBeRemoved q) l none m
  stays q n (inr (i, lt, same, never)) m =
      let s = sees d b h k n i l (record { there = lt; number' = same }) in
      let x = (look_at d b h k i).x in
      let p = has_here (size d) k.config b h i n (MayBeRemoved q) l.legal s.stands m in
      never (ap (λ (g : Facts). g.queue) s.facts ∙ p.0, ap (λ (g : Facts). g.phase) s.facts ∙ phase_received x p.1 p.2)

  pub runs : (q : ℕ) (numbers : List ℕ) (n : ℕ) → RunsTo (GoesIn k.book q) numbers n → RunsTo (IsRemovable d b h k q) numbers n
  runs q numbers n r = record { rises = r.rises; each = λ j lt. goes q (get_or numbers j 0) (r.each j lt) }

  -- with the number that stays they don't run on
  no_more : (q : ℕ) (numbers : List ℕ) (n at : ℕ) → n ≡ get_or numbers at 0 → FallsAt numbers at ⊎ StaysIn k.book q n → RunsTo (IsRemovable d b h k q) numbers (at + 1) → ⊥
  no_more q numbers n at e (inl falls) r =
      let low = falls.0 in
      let back : at - 1 + 1 ≡ at = omega arith in
      let up : get_or numbers (at - 1) 0 < get_or numbers (at - 1 + 1) 0 = r.rises (at - 1) (omega arith) in
      let same : get_or numbers (at - 1 + 1) 0 ≡ get_or numbers at 0 = ap (λ (m : ℕ). get_or numbers m 0) back in
      let down = falls.1 in
      omega (arith, up, same, down)
  no_more q numbers n at e (inr s) r = stays q n s (subst (IsRemovable d b h k q) (sym e) (r.each at (omega arith)))

  pub first : (q : ℕ) (numbers : List ℕ) (n : ℕ) → StopsAt k.book q numbers n → IsFirstLeft (IsRemovable d b h k q) numbers n
  first q numbers n (at, lt, e, r, why) = (at, lt, e, runs q numbers at r, no_more q numbers n at e why)

  -- jobs that are found may be removed
  pub may : (q : ℕ) (numbers : List ℕ) → TakesJobs v q → RunsTo (GoesIn k.book q) numbers (length numbers) → MayRemove d b h k q numbers
  may q numbers t r ne =
      let P : ℕ → Type 0 = λ n. HasJob v.jobs n (MayBeRemoved q) in
      let s = runs q numbers (length numbers) r in
      (t.0, t.1, some numbers ne, s.rises, recursion_from_All P numbers (All-from_get_or P numbers 0 s.each))

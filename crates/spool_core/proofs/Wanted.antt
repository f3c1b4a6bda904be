-- Which jobs are still wanted, and how many a queue has, in the words of the book and of the history.
use Rattle.std.proofs.Common.{◌≡◌, ◌≢◌, ◌==◌, ◌↔◌, ℕ, Bool, true, false, cond, List, map, refl, sym, ◌∙◌, ap, inl, inr}
use Rattle.std.specs.Prelude.{IsTrue, count_by}
use Rattle.held_jobs.specs.declared.phase.Phase.{Phase}
use Rattle.held_jobs.specs.declared.phase.Phase.TheVariants.{Receiving, Received, Ended}
use Rattle.held_jobs.specs.Jobs.{Facts, HeldJob}
use Rattle.held_jobs.specs.Shown.{ShownJob, see_job}
use Rattle.spool_history.specs.Base.{Base}
use Rattle.spool_history.specs.Events.{Event}
use Rattle.spool_history.specs.Now.{Job, State, is_received}
use Rattle.spool_history.specs.Legal.{HasJob}
use Rattle.spool_laws.proofs.Adding.{sum_map}
use Rattle.step_lemmas.proofs.HeldJobs.Standing.{has_here, has_job}
use Rattle.spool_calls.specs.Looks.{Detail, What, size}
use Rattle.spool_calls.specs.Kept.{Kept, Leaves, left_by, look, shown_job}
use Rattle.step_lemmas.proofs.Cores.Leaving.{Found, none_has, sees, look_at}
use Rattle.step_lemmas.proofs.Cores.Phases.{ended, phase_ended}
use Rattle.spool_core.specs.Wanted.{GoesOn, IsGoing}

-- a job whose phase isn't the last one hasn't ended
unended : (e r : Bool) → cond e Ended (cond r Received Receiving) ≢ Ended → e ≡ false
unended true r never = absurd (never refl)
unended false r never = refl

clash : (e : Bool) → e ≡ true → e ≡ false → ⊥
clash true a b = absurd (cc)
clash false a b = absurd (cc)

module _ (d : Detail) (b : Base) (h : List (Event (What d))) (k : Kept) (l : Leaves d b h k) where
  abbrev v : State (What d)
  v = left_by d b h k

  -- whether a job is wanted
  pub wanted : (n : ℕ) (r : Bool) → IsGoing k.book n r → IsTrue r ↔ HasJob v.jobs n GoesOn
  wanted n true (i, lt, same, goes) =
      let s = sees d b h k n i l (record { there = lt; number' = same }) in
      let x = (look_at d b h k i).x in
      (λ t. has_job v i n GoesOn s.stands (unended x.ended (is_received x) (λ e. goes (ap (λ (g : Facts). g.phase) s.facts ∙ e))), λ m. refl)
  wanted n false (inl none) = (λ t. absurd (cc), λ m. absurd (none_has d b h k n GoesOn l none m))
  wanted n false (inr (i, lt, same, over)) =
      let s = sees d b h k n i l (record { there = lt; number' = same }) in
      let x = (look_at d b h k i).x in
      let e : x.ended ≡ true = ended x (sym (ap (λ (g : Facts). g.phase) s.facts) ∙ over) in
      (λ t. absurd (cc), λ m. absurd (clash x.ended e (has_here (size d) k.config b h i n GoesOn l.legal s.stands m)))

  -- how many jobs of a queue are held
  pub in_queue : (q : ℕ) → count_by (λ (j : HeldJob). j.facts.queue == q) k.book.jobs ≡ count_by (λ (x : Job (What d)). x.queue == q) v.jobs
  in_queue q =
      let f : ShownJob (What d) → ℕ = λ s. cond (s.facts.queue == q) 1 0 in
      sym (sum_map f (see_job (look d)) k.book.jobs)
      ∙ (ap (count_by (λ (s : ShownJob (What d)). s.facts.queue == q)) l.kept.book.jobs ∙ sum_map f (shown_job k.config) v.jobs)

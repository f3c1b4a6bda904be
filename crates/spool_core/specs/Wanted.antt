-- Which jobs are still wanted.
use Rattle.std.specs.Prelude.{◌≡◌, ◌≢◌, ◌<◌, ◌⊎◌, ℕ, Bool, true, false, All, length}
use Rattle.held_jobs.specs.declared.phase.Phase.TheVariants.{Ended}
use Rattle.held_jobs.specs.Jobs.{HeldJob}
use Rattle.held_jobs.specs.Books.{Books, job_at}
use Rattle.spool_history.specs.Now.{Job}

-- it hasn't ended
abbrev pub GoesOn : {C : Type 0} → Job C → Type 0
GoesOn v = v.ended ≡ false

-- as the book has it: a job of this number that hasn't ended; or none of this number, or one that has ended
abbrev pub IsGoing : Books → (number : ℕ) → Bool → Type 0
IsGoing b n true = (i : ℕ) × (i < length b.jobs) × ((job_at b i).facts.number ≡ n) × ((job_at b i).facts.phase ≢ Ended)
IsGoing b n false =
    All (λ (j : HeldJob). j.facts.number ≢ n) b.jobs
    ⊎ ((i : ℕ) × (i < length b.jobs) × ((job_at b i).facts.number ≡ n) × ((job_at b i).facts.phase ≡ Ended))

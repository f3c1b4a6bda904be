-- Which jobs a removal by their numbers takes, and which one stays.
use Rattle.std.specs.Prelude.{◌≡◌, ◌≢◌, ◌<◌, ◌≤◌, ◌⊎◌, ◌+◌, ◌-◌, ℕ, List, Result, Ok, Err, All, length, slice_index_or}
use Rattle.held_jobs.specs.declared.phase.Phase.TheVariants.{Received}
use Rattle.held_jobs.specs.Jobs.{Facts, HeldJob}
use Rattle.held_jobs.specs.Books.{Books, job_at}
use Rattle.spool_history.specs.Base.{Base}
use Rattle.spool_history.specs.Events.{Event}
use Rattle.spool_history.specs.Legal.{HasJob, MayBeRemoved}
use Rattle.spool_history.specs.Refusals.{OrMemory, RefusesQueue, TakesJobs}
use Rattle.spool_calls.specs.Looks.{Detail, What}
use Rattle.spool_calls.specs.Kept.{Kept}
use Rattle.spool_calls.specs.Calls.{before, queue}
use Rattle.spool_core.specs.Halves.{RemovesJobs}
use Rattle.spool_core.specs.declared.removing.Unremoved.{Unremoved}
use Rattle.spool_core.specs.declared.removing.Unremoved.TheVariants as unremoved

-- the first n of these numbers rise, and P holds of each
pub record RunsTo (P : ℕ → Type 0) (numbers : List ℕ) (n : ℕ) : Type 0 where
  pub rises : (k : ℕ) → k + 1 < n → slice_index_or numbers k 0 < slice_index_or numbers (k + 1) 0
  pub each : (k : ℕ) → k < n → P (slice_index_or numbers k 0)

-- the first of them with which they rise no more, or of which P doesn't hold
abbrev pub IsFirstLeft : (ℕ → Type 0) → List ℕ → ℕ → Type 0
IsFirstLeft P numbers n =
    (at : ℕ) × (at < length numbers) × (n ≡ slice_index_or numbers at 0) × RunsTo P numbers at × (RunsTo P numbers (at + 1) → ⊥)

module _ (d : Detail) (b : Base) (h : List (Event (What d))) (old : Kept) where
  -- a received job of this queue that hasn't ended has this number
  abbrev pub IsRemovable : (q number : ℕ) → Type 0
  IsRemovable q number = HasJob (before d b h old).jobs number (MayBeRemoved q)

  -- all these jobs of a queue may be removed; or else the first that may not is named
  abbrev pub FindsJobs : List ℕ → List ℕ → Result ℕ Unremoved → Type 0
  FindsJobs name numbers (Ok q) =
      (queue d b h old name ≡ q) × TakesJobs (before d b h old) q × RunsTo (IsRemovable q) numbers (length numbers)
  FindsJobs name numbers (Err (unremoved.Refused n)) = RefusesQueue (before d b h old) (queue d b h old name) n
  FindsJobs name numbers (Err (unremoved.Stays n)) =
      TakesJobs (before d b h old) (queue d b h old name) × IsFirstLeft (IsRemovable (queue d b h old name)) numbers n

  -- the same where memory may be refused, if nothing else is the cause
  abbrev pub FindsOrMemory : List ℕ → List ℕ → Unremoved → Type 0
  FindsOrMemory name numbers (unremoved.Refused n) =
      OrMemory ((q : ℕ) × FindsJobs name numbers (Ok q)) (RefusesQueue (before d b h old) (queue d b h old name)) n
  FindsOrMemory name numbers (unremoved.Stays n) = FindsJobs name numbers (Err (unremoved.Stays n))

  -- all of them were removed, or none
  abbrev pub RemovesThese : List ℕ → List ℕ → (new : Kept) → Result ℕ Unremoved → Type 0
  RemovesThese name numbers new (Ok q) = FindsJobs name numbers (Ok q) × RemovesJobs d b h old q numbers new
  RemovesThese name numbers new (Err e) = FindsJobs name numbers (Err e) × (new ≡ old)

-- the same, as the book has it

-- the job is received, of this queue, and hasn't ended
abbrev pub Goes : (q : ℕ) → Facts → Type 0
Goes q j = (j.queue ≡ q) × (j.phase ≡ Received)

-- such a job has this number
abbrev pub GoesIn : Books → (q number : ℕ) → Type 0
GoesIn b q n = (i : ℕ) × (i < length b.jobs) × ((job_at b i).facts.number ≡ n) × Goes q (job_at b i).facts

-- none has this number, or one that is no such job
abbrev pub StaysIn : Books → (q number : ℕ) → Type 0
StaysIn b q n =
    All (λ (j : HeldJob). j.facts.number ≢ n) b.jobs
    ⊎ ((i : ℕ) × (i < length b.jobs) × ((job_at b i).facts.number ≡ n) × (Goes q (job_at b i).facts → ⊥))

-- the numbers rise no more with the one at this place
abbrev pub FallsAt : List ℕ → (at : ℕ) → Type 0
FallsAt numbers at = (1 ≤ at) × (slice_index_or numbers at 0 ≤ slice_index_or numbers (at - 1) 0)

-- up to the one at some place, which is this one, they rise and such jobs have them
abbrev pub StopsAt : Books → (q : ℕ) → List ℕ → ℕ → Type 0
StopsAt b q numbers n =
    (at : ℕ) × (at < length numbers) × (n ≡ slice_index_or numbers at 0) × RunsTo (GoesIn b q) numbers at
    × (FallsAt numbers at ⊎ StaysIn b q n)

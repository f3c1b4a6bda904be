-- What the first half of a removal or a start finds, and what the second one does with it.
use Rattle.std.specs.Prelude.{◌≡◌, ◌≢◌, ◌⊎◌, ℕ, List, [], ◌∷◌, Result, Ok, Err}
use Rattle.lpd_values.specs.declared.refusal.Refusal.{Refusal}
use Rattle.spool_history.specs.Base.{Base}
use Rattle.spool_history.specs.Events.{Event}
use Rattle.spool_history.specs.Events.Event.{Removed, Started}
use Rattle.spool_history.specs.Texts.{removal_text}
use Rattle.spool_history.specs.Legal.{May}
use Rattle.spool_history.specs.Refusals.{OrMemory, RefusesQueue, TakesJobs}
use Rattle.spool_calls.specs.Looks.{Detail, What, size}
use Rattle.spool_calls.specs.Kept.{Kept, Leaves}
use Rattle.spool_calls.specs.Calls.{before, queue, removed_by}
use Rattle.spool_calls.specs.Readers.{stopped_for}
use Rattle.spool_core.specs.declared.telling.Removal.{Removal}
use Rattle.spool_core.specs.declared.closing.Started as found

module _ (d : Detail) (b : Base) (h : List (Event (What d))) (old : Kept) where
  -- a removal finds its queue, the numbers of the jobs that it takes, and the text that tells of them
  abbrev pub FindsRemoval : List ℕ → List ℕ → List (List ℕ) → Result Removal Refusal → Type 0
  FindsRemoval name agent list (Ok r) =
      (queue d b h old name ≡ r.queue) × TakesJobs (before d b h old) r.queue
      × (r.numbers.items ≡ removed_by d b h old r.queue agent list) × (r.text ≡ removal_text (before d b h old) r.queue agent list)
  FindsRemoval name agent list (Err n) =
      OrMemory (TakesJobs (before d b h old) (queue d b h old name)) (RefusesQueue (before d b h old) (queue d b h old name)) n

  -- the jobs of these numbers may be removed of a queue, if there is any
  abbrev pub MayRemove : (q : ℕ) → List ℕ → Type 0
  MayRemove q numbers = numbers ≢ [] → May (size d) (before d b h old) (Removed q numbers)

  -- they were removed, if there is any
  abbrev pub RemovesJobs : (q : ℕ) → List ℕ → (new : Kept) → Type 0
  RemovesJobs q numbers new = ((numbers ≡ []) × (new ≡ old)) ⊎ ((numbers ≢ []) × Leaves d b (Removed q numbers ∷ h) new)

  -- a queue in which printers may be started is found
  abbrev pub FindsQueue : List ℕ → Result ℕ Refusal → Type 0
  FindsQueue name (Ok q) = (queue d b h old name ≡ q) × TakesJobs (before d b h old) q
  FindsQueue name (Err n) = RefusesQueue (before d b h old) (queue d b h old name) n

  -- a start finds its queue, and how many printers of it are stopped
  abbrev pub FindsStart : List ℕ → Result found.Started Refusal → Type 0
  FindsStart name (Ok s) =
      (queue d b h old name ≡ s.queue) × TakesJobs (before d b h old) s.queue × (s.stopped ≡ stopped_for d b h old s.queue)
  FindsStart name (Err n) = RefusesQueue (before d b h old) (queue d b h old name) n

  -- the stopped printers of a queue were started, if there is any
  abbrev pub StartsQueue : (q : ℕ) → (new : Kept) → Type 0
  StartsQueue q new =
      (May (size d) (before d b h old) (Started q) × Leaves d b (Started q ∷ h) new)
      ⊎ ((May (size d) (before d b h old) (Started q) → ⊥) × (new ≡ old))

-- Why a request is refused: the cause of each refusal, by where the history left the spool. Of refusals the first one whose
-- cause holds is due.
use Rattle.std.specs.Prelude.{◌≡◌, ℕ, ◌+◌, ◌<◌, ◌≤◌, ◌^◌, true, false, List, None, length}
use Rattle.lpd_values.specs.Kept.{is_among}
use Rattle.lpd_values.specs.declared.refusal.Refusal.{Refusal}
use Rattle.lpd_values.specs.declared.refusal.Refusal.TheVariants.{UnknownQueue, TableFull, AccountFull, Closed, OverClaim, ControlTwice, NameTaken, FilesFull, FileOpen, NotOpen, Memory}
use Rattle.config_values.specs.Config.{IsQueue}
use Rattle.spool_history.specs.Acts.{names_in, is_open_in}
use Rattle.spool_history.specs.Now.{State}
use Rattle.spool_history.specs.Legal.{HasJob, HasNoFile, HasFileRoom, HasNoOpen, HasRoom, IsBelowLimit, IsReceiving, IsWithinLimit, CanAsk}

-- memory may be refused where this holds, and nothing else is the cause
abbrev pub OrMemory : Type 0 → (Refusal → Type 0) → Refusal → Type 0
OrMemory P Refuses Memory = P
OrMemory P Refuses refusal = Refuses refusal

-- the only refusal is NotOpen, where P doesn't hold
abbrev pub RefusesUnless : Type 0 → Refusal → Type 0
RefusesUnless P NotOpen = P → ⊥
RefusesUnless P _ = ⊥

module _ {C : Type 0} (v : State C) where
  -- the spool is open, and the queue is known
  abbrev pub TakesJobs : (queue : ℕ) → Type 0
  TakesJobs q = (v.closed ≡ false) × IsQueue v.config q

  -- of a queue
  abbrev pub RefusesQueue : (queue : ℕ) → Refusal → Type 0
  RefusesQueue q Closed = v.closed ≡ true
  RefusesQueue q UnknownQueue = (v.closed ≡ false) × (IsQueue v.config q → ⊥)
  RefusesQueue q _ = ⊥

  -- there is room for one more job of a queue in the account, and a number for it
  abbrev pub HasEntries : (queue : ℕ) → Type 0
  HasEntries q = HasRoom v q × (v.accepted + 1 < 2 ^ 64)

  -- of a new job of a queue
  abbrev pub RefusesJob : (queue : ℕ) → Refusal → Type 0
  RefusesJob q TableFull = TakesJobs q × (v.config.max_jobs ≤ length v.jobs)
  RefusesJob q AccountFull = TakesJobs q × (length v.jobs < v.config.max_jobs) × (HasEntries q → ⊥)
  RefusesJob q refusal = RefusesQueue q refusal

  -- of a data file of a job
  abbrev pub RefusesFile : (job : ℕ) → (name : List ℕ) → (count : ℕ) → Refusal → Type 0
  RefusesFile j name count NotOpen = HasJob v.jobs j IsReceiving → ⊥
  RefusesFile j name count FileOpen = HasJob v.jobs j (λ w. IsReceiving w × (is_open_in w.files ≡ true))
  RefusesFile j name count NameTaken =
      HasJob v.jobs j (λ w. IsReceiving w × HasNoOpen w × (is_among name (names_in w.files) ≡ true))
  RefusesFile j name count FilesFull =
      HasJob v.jobs j (λ w. IsReceiving w × HasNoOpen w × HasNoFile name w × (HasFileRoom w → ⊥))
  RefusesFile j name count OverClaim =
      HasJob v.jobs j (λ w. IsReceiving w × HasNoOpen w × HasNoFile name w × HasFileRoom w × (IsWithinLimit v.config count w → ⊥))
  RefusesFile j name count _ = ⊥

  -- of a page that is asked for
  abbrev pub RefusesPage : (job : ℕ) → Refusal → Type 0
  RefusesPage j NotOpen = HasJob v.jobs j CanAsk → ⊥
  RefusesPage j OverClaim = HasJob v.jobs j (λ w. CanAsk w × (IsBelowLimit v.config w → ⊥))
  RefusesPage j _ = ⊥

  -- the control file of a job may come
  abbrev pub MayControl : (job : ℕ) → Type 0
  MayControl j = HasJob v.jobs j (λ w. IsReceiving w × (w.control ≡ None))

  -- of a control file
  abbrev pub RefusesControl : (job : ℕ) → Refusal → Type 0
  RefusesControl j NotOpen = HasJob v.jobs j IsReceiving → ⊥
  RefusesControl j ControlTwice = HasJob v.jobs j (λ w. IsReceiving w × (w.control ≡ None → ⊥))
  RefusesControl j _ = ⊥

  -- of a question for the state of a queue, of a closed spool too
  abbrev pub RefusesState : (queue : ℕ) → Refusal → Type 0
  RefusesState q UnknownQueue = IsQueue v.config q → ⊥
  RefusesState q _ = ⊥

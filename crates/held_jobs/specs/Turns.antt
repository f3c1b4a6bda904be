-- Which of the held jobs is next.
use Rattle.std.specs.Prelude.{◌≡◌, ℕ, ◌<◌, ◌==◌, ◌&&◌, ◌⊎◌, not, nat_lt, Bool, true, false, List, Option, Some, None, length, map, slice_index_or}
use Rattle.std.specs.List.{list_any}
use Rattle.held_jobs.specs.declared.phase.Phase.{Phase}
use Rattle.held_jobs.specs.declared.phase.Phase.TheVariants.{Receiving, Received, Ended}
use Rattle.held_jobs.specs.Jobs.{Facts, HeldJob, new_facts}

-- what is known of each of these jobs
abbrev pub facts_in : List HeldJob → List Facts
facts_in jobs = map {A = HeldJob} {B = Facts} (λ j. j.facts) jobs

abbrev pub no_facts : Facts
no_facts = new_facts 0 0 0

abbrev pub is_received : Phase → Bool
is_received Receiving = false
is_received Received = true
is_received Ended = false

abbrev pub is_ended : Phase → Bool
is_ended Receiving = false
is_ended Received = false
is_ended Ended = true

-- the second is an earlier job of the first's sender and queue
abbrev pub is_preceded_by : Facts → Facts → Bool
is_preceded_by w v = (v.sender == w.sender) && ((v.queue == w.queue) && nat_lt v.number w.number)

-- it is of this queue and received, no page of it was handed, and no earlier job stands before it
abbrev pub ready_in : List Facts → ℕ → Facts → Bool
ready_in jobs q w = (w.queue == q) && (is_received w.phase && ((w.handed == 0) && not (list_any (is_preceded_by w) jobs)))

-- it has this number, and hasn't ended
abbrev pub goes_on : ℕ → Facts → Bool
goes_on j w = (w.number == j) && not (is_ended w.phase)

-- the place of the first that passes the test
abbrev pub FirstOf : (Facts → Bool) → List Facts → Option ℕ → Type 0
FirstOf test jobs None = (k : ℕ) → k < length jobs → test (slice_index_or jobs k no_facts) ≡ false
FirstOf test jobs (Some i) =
    (i < length jobs) × (test (slice_index_or jobs i no_facts) ≡ true) × ((k : ℕ) → k < i → test (slice_index_or jobs k no_facts) ≡ false)

-- the place of the job whose page a printer gets: the one that it began, while that hasn't ended, or else the first that is ready
abbrev pub TurnAt : List Facts → ℕ → Option ℕ → Option ℕ → Type 0
TurnAt jobs q None r = FirstOf (ready_in jobs q) jobs r
TurnAt jobs q (Some j) r =
    ((i : ℕ) × (r ≡ Some i) × FirstOf (goes_on j) jobs (Some i)) ⊎ (FirstOf (goes_on j) jobs None × FirstOf (ready_in jobs q) jobs r)

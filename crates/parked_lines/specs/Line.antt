-- The jobs of a queue, by the numbers of their files.
use Rattle.std.specs.Prelude.{◌≡◌, ◌≢◌, ◌<◌, ◌&&◌, ◌==◌, ℕ, Bool, not, List, MatchOption, Option, None, find, nat_lt, if◌then◌else◌, length, slice_index_or}
use Rattle.std.specs.List.{AllPairs, list_any}
use Rattle.std.specs.Option.{option_map}
use Rattle.parked_lines.specs.declared.job.JobSize.{JobSize}
use Rattle.parked_lines.specs.declared.job.NewJob.{NewJob}
use Rattle.parked_lines.specs.declared.job.ParkedJob.{ParkedJob}
use Rattle.parked_lines.specs.declared.state.JobMove.{JobMove}
use Rattle.parked_lines.specs.declared.state.ParkState.{ParkState}
use Rattle.parked_lines.specs.declared.state.ParkState.TheVariants.{Coming, Beside}
use Rattle.parked_lines.specs.States.{is_fed, is_outside, is_parked, is_waiting, kept, moved}

-- a job that is opened, in this state and of this size
abbrev pub job_at : NewJob → ParkState → JobSize → ParkedJob
job_at job state size =
    record { number = job.number; octets = size.octets; pages = size.pages; sender = job.sender; owner = job.owner; state = state }

-- a job once it is kept and has this size, where it wasn't kept before
abbrev pub job_kept : ParkedJob → JobSize → Option ParkedJob
job_kept job size =
    option_map (λ state. record job { octets = size.octets; pages = size.pages; state = state }) (kept job.state)

-- a job after this, where it may happen to it
abbrev pub job_moved : JobMove → ParkedJob → Option ParkedJob
job_moved change job = option_map (λ state. record job { state = state }) (moved change job.state)

-- a job of this sender is being fed
abbrev pub is_fed_of : ℕ → ParkedJob → Bool
is_fed_of sender job = is_fed job.state && job.sender == sender

-- each number once, in order
abbrev pub IsRising : List ParkedJob → Type 0
IsRising jobs = AllPairs (λ (a b : ParkedJob). a.number < b.number) jobs

-- the job of this number
abbrev pub job_of : List ParkedJob → ℕ → Option ParkedJob
job_of jobs number = find (λ job. job.number == number) jobs

-- of this number this is known now, and of each other what was known
pub record Becomes (old new : List ParkedJob) (number : ℕ) (job : Option ParkedJob) : Type 0 where
  pub this_job : job_of new number ≡ job
  pub other_jobs : (k : ℕ) → k ≢ number → job_of new k ≡ job_of old k

-- a job is of this sender, has a smaller number, and isn't the spool's
abbrev pub is_earlier : (sender number : ℕ) → ParkedJob → Bool
is_earlier sender number job = nat_lt job.number number && is_outside job.state && (job.sender == sender)

-- a job of this sender with a smaller number comes beside the spool, waits, or is being fed
abbrev pub has_earlier : List ParkedJob → (sender number : ℕ) → Bool
has_earlier jobs sender number = list_any (is_earlier sender number) jobs

-- a job waits, or is being fed
abbrev pub has_parked : List ParkedJob → Bool
has_parked jobs = list_any (λ job. is_parked job.state) jobs

-- the way of a job that is opened: through the spool only where that has room, none waits and none of its sender is earlier
abbrev pub way_of : List ParkedJob → (sender number : ℕ) → (has_room : Bool) → ParkState
way_of jobs sender number has_room =
    if has_room && (not (has_parked jobs) && not (has_earlier jobs sender number)) then Coming else Beside

-- a job waits, and none of its sender with a smaller number isn't the spool's
abbrev pub may_feed : List ParkedJob → ParkedJob → Bool
may_feed jobs job = is_waiting job.state && not (has_earlier jobs job.sender job.number)

-- at this place stands a job of this number
pub record IsAt (jobs : List ParkedJob) (number place : ℕ) : Type 0 where
  pub within : place < length jobs
  pub number_is : (d : ParkedJob) → (slice_index_or jobs place d).number ≡ number

-- this is the place of the job of this number, and there is none only where no job has it
abbrev pub IsPlaceOf : List ParkedJob → (number : ℕ) → (place : Option ℕ) → Type 0
IsPlaceOf jobs number place = MatchOption place (job_of jobs number ≡ None) (IsAt jobs number)

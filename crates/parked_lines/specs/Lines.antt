-- The lines of all queues, and what holds of each step.
use Rattle.std.specs.Prelude.{◌≡◌, ◌≢◌, ◌<◌, ◌≤◌, ℕ, Bool, List, [], Option, Some, None, IfSome, IsSome, IsTrue, find, if◌then◌else◌, is_some, length, slice_index_or}
use Rattle.std.specs.List.{list_any}
use Rattle.std.specs.Option.{option_and_then}
use Rattle.parked_lines.specs.declared.job.ParkedJob.{ParkedJob}
use Rattle.parked_lines.specs.declared.parts.FreePart.{FreePart}
use Rattle.parked_lines.specs.Line.{Becomes, IsRising, job_of, may_feed}
use Rattle.parked_lines.specs.Parts.{has_room}
use Rattle.parked_lines.specs.States.{is_kept, is_outside}

-- the jobs of a queue, none where there is no such queue
abbrev pub line_of : List (List ParkedJob) → (queue : ℕ) → List ParkedJob
line_of lines queue = slice_index_or lines queue []

-- the job of this number in the line of a queue
abbrev pub found : List (List ParkedJob) → (queue number : ℕ) → Option ParkedJob
found lines queue number = job_of (line_of lines queue) number

-- Each number is in one place: it stands once in its line, and in no other line.
pub record IsOnce (lines : List (List ParkedJob)) : Type 0 where
  pub in_line : (queue : ℕ) → IsRising (line_of lines queue)
  pub in_one_line : (one other number : ℕ) → IsSome (found lines one number) → IsSome (found lines other number) → one ≡ other

-- One step: of this number this is known now; nothing else changes.
pub record MovesOne (old new : List (List ParkedJob)) (queue number : ℕ) (job : Option ParkedJob) : Type 0 where
  pub queues : length new ≡ length old
  pub in_line : Becomes (line_of old queue) (line_of new queue) number job
  pub other_lines : (q : ℕ) → q ≢ queue → line_of new q ≡ line_of old q

-- a job of this number was kept, and hasn't ended
abbrev pub HasKept : List (List ParkedJob) → (queue number : ℕ) → Type 0
HasKept lines queue number = (job : ParkedJob) × (found lines queue number ≡ Some job) × IsTrue (is_kept job.state)

-- Nothing is lost: what was kept waits, is being fed, or the spool has it.
abbrev pub LosesNone : (old new : List (List ParkedJob)) → Type 0
LosesNone old new = (queue number : ℕ) → HasKept old queue number → HasKept new queue number

-- Order: no job of this sender and queue with a smaller number comes beside the spool, waits, or is being fed.
abbrev pub IsNext : List (List ParkedJob) → (queue sender number : ℕ) → Type 0
IsNext lines queue sender number =
    (k : ℕ) → IfSome (found lines queue k) (λ job. IsTrue (is_outside job.state) → job.sender ≡ sender → number ≤ k)

-- a job of this number stands in some line
abbrev pub has_known : List (List ParkedJob) → (number : ℕ) → Bool
has_known lines number = list_any (λ line. is_some (job_of line number)) lines

-- what is free for each queue, by the queues; nothing where that isn't told
abbrev pub free_of : List FreePart → (queue : ℕ) → FreePart
free_of free queue = slice_index_or free queue (record { rows = 0; pages = 0 })

-- a job, where it has room
abbrev pub fitting : FreePart → ParkedJob → Option ParkedJob
fitting free job = if has_room free job.pages then Some job else None

-- the job of a queue that is fed next: the first that may be fed, where it has room
abbrev pub next_of : List (List ParkedJob) → List FreePart → (queue : ℕ) → Option ParkedJob
next_of lines free queue =
    option_and_then (fitting (free_of free queue)) (find (may_feed (line_of lines queue)) (line_of lines queue))

-- no queue of these has a job that is fed next
abbrev pub NoneFrom : List (List ParkedJob) → List FreePart → (from to : ℕ) → Type 0
NoneFrom lines free from to = (queue : ℕ) → from ≤ queue → queue < to → next_of lines free queue ≡ None

-- A queue is the first that has one, from this one on, and then from the first on.
abbrev pub IsFirstFrom : List (List ParkedJob) → List FreePart → (turn queue : ℕ) → Type 0
IsFirstFrom lines free turn queue =
    (turn ≤ queue → NoneFrom lines free turn queue)
    × (queue < turn → NoneFrom lines free turn (length lines) × NoneFrom lines free 0 queue)

-- The job in hand, and which job it is.
use Rattle.std.specs.Prelude.{◌≡◌, ◌<◌, ◌≤◌, ◌⊎◌, ◌^◌, ℕ, IsErrOf, Result, IsTrue, Bool, true, false, if◌then◌else◌, List, Option, None, Some}
use Rattle.lpd_commands.specs.Written.{command_has_line}
use Rattle.lpd_commands.specs.declared.command.Command.TheVariants.{Receive}
use Rattle.kept_jobs.specs.Folder.{IsSeen, OldOrNone, SamePassed, Seen}
use Rattle.kept_jobs.specs.Kept.{IsInHand, IsKept, LetsOut}
use Rattle.job_streams.specs.Stream.{Coming, IsFit, is_whole, stream}
use Rattle.job_hand.specs.Known.{Knows}
use Rattle.job_hand.specs.declared.hand.HandStage.{HandStage}
use Rattle.job_hand.specs.declared.hand.HandStage.TheVariants as stage
use Rattle.job_hand.specs.declared.hand.Hand.{Hand}
use Rattle.job_hand.specs.declared.cause.Cause.{Cause}
use Rattle.job_hand.specs.declared.cause.Cause.TheVariants as cause
use Rattle.kept_jobs.specs.declared.folder.KeepError.TheVariants as keep

-- what is told of a folder's job in hand
abbrev pub Telling : Type 0 → Type 0
Telling F = F → Option Seen

-- what a crash may leave of it
abbrev pub Leaving : Type 0 → Type 1
Leaving F = F → Option (List ℕ) → Type 0

module _ {F : Type 0} (seen : Telling F) (may_leave : Leaving F) where
  -- this job is coming: its octets so far are in the temporary file in hand
  pub record Stands (hand : Hand F) (job : Coming) : Type 0 where
    pub sender : job.sender < 2 ^ 32
    pub queue : IsTrue (command_has_line (Receive job.queue))
    pub knows : Knows hand.known job
    pub in_hand : IsInHand (seen hand.folder) (may_leave hand.folder) (stream job)

  -- this job is kept
  pub record Holds (hand : Hand F) (job : Coming) : Type 0 where
    pub fit : IsFit job
    pub whole : is_whole job ≡ true
    pub kept : IsKept (seen hand.folder) (may_leave hand.folder) (stream job)

  abbrev pub FollowsAs : HandStage → Hand F → Option Coming → Type 0
  FollowsAs stage.Idle hand job = job ≡ None
  FollowsAs stage.Coming hand job = (j : Coming) × (job ≡ Some j) × Stands hand j
  FollowsAs stage.Kept hand job = (j : Coming) × (job ≡ Some j) × Holds hand j
  FollowsAs (stage.Broken cause) hand job = Unit {0}

  -- the hand is where this job is, if there is one; of a job that can't be kept it says nothing
  abbrev pub Follows : Hand F → Option Coming → Type 0
  Follows hand job = FollowsAs hand.stage hand job

  -- a job that is still coming isn't whole
  abbrev pub IsDecided : Hand F → Option Coming → Type 0
  IsDecided hand None = Unit {0}
  IsDecided hand (Some job) = hand.stage ≡ stage.Coming → is_whole job ≡ false

-- of a job that is fit and whole this is what is kept
abbrev pub IsOfWhole : Option Coming → Option (List ℕ) → Type 0
IsOfWhole None c = ⊥
IsOfWhole (Some job) c = IsFit job × (is_whole job ≡ true) × (c ≡ Some (stream job))

-- A crash leaves what it might have left before, or nothing, or the whole of this job.
abbrev pub MayLeave : {F : Type 0} → Telling F → Leaving F → (old new : F) → Option Coming → Type 0
MayLeave seen may_leave old new job =
    (c : Option (List ℕ)) → may_leave new c →
    (may_leave old c ⊎ (c ≡ None)) ⊎ IsSeen (λ s. IsOfWhole job c) (seen old)

-- At each moment a crash might have left what it might have left before, or nothing, or the whole of this job.
abbrev pub LeavesAt : {F : Type 0} → Telling F → Leaving F → (old : F) → Option Coming → Option (List ℕ) → Type 0
LeavesAt seen may_leave old job c = OldOrNone (may_leave old) c ⊎ IsSeen (λ s. IsOfWhole job c) (seen old)

-- the folder is told to have failed only where it has
pub record HasFailed {T : Type 0} (before now : ℕ) (result : Result T Cause) : Type 0 where
  pub later : before ≤ now
  pub failed : IsErrOf result (cause.Folder keep.Failed) → before < now

-- a job is given up because the folder has failed only where it has
pub record Blames {F : Type 0} (faults : F → ℕ) (old new : Hand F) : Type 0 where
  pub later : faults old.folder ≤ faults new.folder
  pub failed :
      new.stage ≡ stage.Broken (cause.Folder keep.Failed) →
      (old.stage ≡ stage.Broken (cause.Folder keep.Failed)) ⊎ (faults old.folder < faults new.folder)

-- a job that is in hand goes on so
abbrev pub at_job : (Coming → Coming) → Option Coming → Option Coming
at_job f None = None
at_job f (Some job) = Some (f job)

-- a job that is whole is in hand no more
abbrev pub settled : Option Coming → Option Coming
settled None = None
settled (Some job) = if is_whole job then None else Some job

-- a job that is whole was passed on under this number, or left where it has none, with its octets, which are read back as it; and
-- no other was
abbrev pub SettlesAs : Bool → (number : Option ℕ) → Coming → (old new : Option Seen) → Type 0
SettlesAs true number job old new = IsFit job × LetsOut number (stream job) old new
SettlesAs false number job old new = SamePassed old new

abbrev pub Settles : (number : Option ℕ) → Option Coming → (old new : Option Seen) → Type 0
Settles number None old new = SamePassed old new
Settles number (Some job) old new = SettlesAs (is_whole job) number job old new

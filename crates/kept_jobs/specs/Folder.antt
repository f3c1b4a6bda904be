-- What the calls of a folder do to the job in hand, and what a crash may leave of it.
use Rattle.std.specs.Prelude.{◌<◌, ◌≡◌, ◌⊎◌, ◌≤◌, ℕ, List, [], Option, Some, None, Result, IsErrOf}
use Rattle.kept_jobs.specs.declared.folder.KeepError.{KeepError}
use Rattle.kept_jobs.specs.declared.folder.KeepError.TheVariants.{Failed}

-- what a folder tells: the octets of the temporary file in hand and of the whole file in hand, where there is one, and
-- the jobs that were passed on or left, each by its number, a job that was left by none, and its octets, the newest first
pub record Seen : Type 0 where
  pub partial : Option (List ℕ)
  pub whole : Option (List ℕ)
  pub passed : List (Option ℕ × List ℕ)

-- of what is told this holds
abbrev pub IsSeen : (Seen → Type 0) → Option Seen → Type 0
IsSeen P None = Unit {0}
IsSeen P (Some s) = P s

-- what was told leads to what is told
abbrev pub Leads : (Seen → Seen → Type 0) → (old new : Option Seen) → Type 0
Leads P None new = new ≡ None
Leads P (Some old) new = (s : Seen) × (new ≡ Some s) × P old s

-- the octets of a file, none where there is no file
abbrev pub octets_of : Option (List ℕ) → List ℕ
octets_of (Some octets) = octets
octets_of None = []

-- nothing is in hand any more
abbrev pub Empties : (old new : Option Seen) → Type 0
Empties = Leads (λ old new. new ≡ record old { partial = None; whole = None })

-- nothing is in hand any more, unless the folder has failed since
abbrev pub EmptiesOrFails : (before now : ℕ) → (old new : Option Seen) → Type 0
EmptiesOrFails before now old new = now ≡ before → Empties old new

-- nothing was passed on or left
abbrev pub SamePassed : (old new : Option Seen) → Type 0
SamePassed = Leads (λ old new. new.passed ≡ old.passed)

-- a crash leaves what it might have left before
abbrev pub NoMore : (old new : Option (List ℕ) → Type 0) → Type 0
NoMore old new = (c : Option (List ℕ)) → new c → old c

-- a crash leaves what it might have left before, or nothing
abbrev pub OrNone : (old new : Option (List ℕ) → Type 0) → Type 0
OrNone old new = (c : Option (List ℕ)) → new c → old c ⊎ (c ≡ None)

-- what a crash might have left before, or nothing
abbrev pub OldOrNone : (Option (List ℕ) → Type 0) → Option (List ℕ) → Type 0
OldOrNone may_leave c = may_leave c ⊎ (c ≡ None)

-- no crash leaves a job
abbrev pub IsNever : (Option (List ℕ) → Type 0) → Type 0
IsNever may_leave = (c : Option (List ℕ)) → may_leave c → c ≡ None

-- some octets that the file may have
abbrev pub SomeOf : (List ℕ → Type 0) → Option (List ℕ) → Type 0
SomeOf may_hold c = (octets : List ℕ) × may_hold octets × (c ≡ Some octets)

-- Time goes on: a crash since t might have left what it might have left before, or what P says, as what it may leave now.
pub record Elapses (before now : ℕ) (past since : ℕ → Option (List ℕ) → Type 0) (P : Option (List ℕ) → Type 0)
    : Type 0 where
  pub later : before ≤ now
  pub nothing_else : (t : ℕ) (c : Option (List ℕ)) → t ≤ before → since t c → past t c ⊎ P c
  pub keeps : (t : ℕ) (c : Option (List ℕ)) → t ≤ before → past t c → since t c

-- of each job that was passed on or left a crash leaves the whole, but for those of which it might have left something else before
abbrev pub LacksNoMore : (old new : List ℕ → Type 0) → Type 0
LacksNoMore old new = (octets : List ℕ) → new octets → old octets

-- `Failed` is told only where the disk has failed since
pub record HasCause {T : Type 0} (before now : ℕ) (result : Result T KeepError) : Type 0 where
  pub later : before ≤ now
  pub failed : IsErrOf result Failed → before < now

-- A crash at any moment since old leaves what P says.
pub record LeavesOnly {D : Type 0} (moment : D → ℕ) (left_since : D → ℕ → Option (List ℕ) → Type 0) (old new : D)
    (P : Option (List ℕ) → Type 0) : Type 0 where
  pub later : moment old ≤ moment new
  pub each : (c : Option (List ℕ)) → left_since new (moment old) c → P c

-- What a call, or some in a row, come to at each moment: a crash might have left what it might have left before, or what P says,
-- and leaves of each job that was passed on or left the whole as before.
pub record GoesOn {F : Type 0} (moment : F → ℕ) (left_since : F → ℕ → Option (List ℕ) → Type 0) (may_lack : F → List ℕ → Type 0)
    (old new : F) (P : Option (List ℕ) → Type 0) : Type 0 where
  pub time : Elapses (moment old) (moment new) (left_since old) (left_since new) P
  pub lacks : LacksNoMore (may_lack old) (may_lack new)

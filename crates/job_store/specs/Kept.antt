-- What a start finds.
use Rattle.std.specs.Prelude.{◌≡◌, ◌⊎◌, ◌≤◌, ℕ, true, List, Option, Some, None, IfSome, is_some}
use Rattle.kept_jobs.specs.Folder.{IsNever, LeavesOnly, NoMore}
use Rattle.kept_jobs.specs.Kept.{AllOrNone, IsKept}
use Rattle.job_store.specs.Files.{Files, hand}

-- the octets of each whole file are on the disk, if its name is
abbrev pub HasContents : Files → (ℕ → Option (List ℕ) → Type 0) → Type 0
HasContents f may_leave =
    (n : ℕ) (octets : List ℕ) (c : Option (List ℕ)) → f.whole n ≡ Some octets → may_leave n c → AllOrNone (hand f n) octets c

-- each job of a whole file is kept
abbrev pub KeepsAll : (old new : Files) → (ℕ → Option (List ℕ) → Type 0) → Type 0
KeepsAll old new may_leave =
    (n : ℕ) (octets : List ℕ) → old.whole n ≡ Some octets → IsKept (hand new n) (may_leave n) octets

-- no file has this number or a greater one, and no crash leaves a job of one
pub record IsFreeFrom (f : Files) (may_leave : ℕ → Option (List ℕ) → Type 0) (next : ℕ) : Type 0 where
  pub partial : (n : ℕ) → next ≤ n → f.partial n ≡ None
  pub whole : (n : ℕ) → next ≤ n → f.whole n ≡ None
  pub failed : (n : ℕ) → next ≤ n → f.failed n ≡ None
  pub never : (n : ℕ) → next ≤ n → IsNever (may_leave n)

-- a job that is whole or has failed has this number
abbrev pub IsTaken : Files → ℕ → Type 0
IsTaken f n = (is_some (f.whole n) ≡ true) ⊎ (is_some (f.failed n) ≡ true)

-- the same of what a folder tells, where it tells it: the octets of its whole files are on the disk
abbrev pub ContentsAreThere : {D : Type 0} → Option (D → Files) → D → (ℕ → Option (List ℕ) → Type 0) → Type 0
ContentsAreThere files folder may_leave = IfSome files (λ tell. HasContents (tell folder) may_leave)

-- each job of a whole file is kept from then on
abbrev pub KeepsFound : {D : Type 0} → Option (D → Files) → (old new : D) → (ℕ → Option (List ℕ) → Type 0) → Type 0
KeepsFound files old new may_leave = IfSome files (λ tell. KeepsAll (tell old) (tell new) may_leave)

-- no number from this one on is in use
abbrev pub GoesOnFrom : {D : Type 0} → Option (D → Files) → D → (ℕ → Option (List ℕ) → Type 0) → ℕ → Type 0
GoesOnFrom files folder may_leave next = IfSome files (λ tell. IsFreeFrom (tell folder) may_leave next)

-- the greatest number that 64 bits have is in use
abbrev pub HasNoneLeft : {D : Type 0} → Option (D → Files) → D → Type 0
HasNoneLeft files folder = IfSome files (λ tell. IsTaken (tell folder) 18446744073709551615)

-- a crash leaves a job exactly where its whole file is seen
abbrev pub LeftAsSeen : {D : Type 0} → Option (D → Files) → D → (ℕ → Option (List ℕ) → Type 0) → Type 0
LeftAsSeen files folder may_leave =
    IfSome files (λ tell. (n : ℕ) (c : Option (List ℕ)) → may_leave n c → is_some c ≡ is_some ((tell folder).whole n))

-- Calls after which, and at any moment of which, a crash leaves of each job what it might have left before them.
pub record LeavesNoMore {D : Type 0} (moment : D → ℕ) (left_since : D → (job : ℕ) → ℕ → Option (List ℕ) → Type 0)
    (may_leave : D → (job : ℕ) → Option (List ℕ) → Type 0) (old new : D) : Type 0 where
  pub later : moment old ≤ moment new
  pub crash : (n : ℕ) → NoMore (may_leave old n) (may_leave new n)
  pub any_moment : (n : ℕ) → LeavesOnly moment (λ folder. left_since folder n) old new (may_leave old n)
  -- for a run that began earlier
  pub before : (n t : ℕ) (c : Option (List ℕ)) → t ≤ moment old → left_since new n t c → left_since old n t c ⊎ may_leave old n c

-- The files of a folder at a start.
use Rattle.std.specs.Prelude.{◌≡◌, ◌<◌, ◌≤◌, ◌==◌, ℕ, List, [], Option, Some, None, IfSome, is_some, if◌then◌else◌, count_by}
use Rattle.kept_jobs.specs.Folder.{Seen}

-- the octets of the temporary files, of the whole ones and of those of failed jobs, where there is one of a number
pub record Files : Type 0 where
  pub partial : ℕ → Option (List ℕ)
  pub whole : ℕ → Option (List ℕ)
  pub failed : ℕ → Option (List ℕ)

-- whole files and those of failed jobs are the same
pub record SameJobs (old new : Files) : Type 0 where
  pub whole : new.whole ≡ old.whole
  pub failed : new.failed ≡ old.failed

-- the numbers of all files that are seen, each once
abbrev pub IsListOf : (ℕ → Option (List ℕ)) → List ℕ → Type 0
IsListOf seen names = (n : ℕ) → count_by (λ name. name == n) names ≡ (if is_some (seen n) then 1 else 0)

-- what a hand at the folder would tell that has the files of this number in hand
abbrev pub hand : Files → ℕ → Option Seen
hand f n = Some (record { partial = f.partial n; whole = f.whole n; passed = [] })

-- what is told of a whole file: whether it is there, and its octets
abbrev pub whole_told : {D : Type 0} → Option (D → Files) → D → ℕ → Option (Option (List ℕ))
whole_told None folder n = None
whole_told (Some tell) folder n = Some ((tell folder).whole n)

-- a reader tells what is told of the file that it reads
abbrev pub IsOfFile : Option (Option (List ℕ)) → Option (List ℕ) → Type 0
IsOfFile None left = Unit {0}
IsOfFile (Some None) left = ⊥
IsOfFile (Some (Some octets)) left = left ≡ Some octets

-- there is no such file, where that is told
abbrev pub IsNotThere : Option (Option (List ℕ)) → Type 0
IsNotThere told = IfSome told (λ whole. whole ≡ None)

-- a file was opened, exactly where there is one
abbrev pub Opens : {J : Type 0} → (J → Option (List ℕ)) → Option (Option (List ℕ)) → Option J → Type 0
Opens left told None = IsNotThere told
Opens left told (Some job) = IsOfFile told (left job)

-- these are the numbers of the whole files, where that is told
abbrev pub ListsJobs : {D : Type 0} → Option (D → Files) → D → List ℕ → Type 0
ListsJobs files folder jobs = IfSome files (λ tell. IsListOf (tell folder).whole jobs)

-- these are the numbers of the files of failed jobs, where that is told
abbrev pub ListsFailed : {D : Type 0} → Option (D → Files) → D → List ℕ → Type 0
ListsFailed files folder failed = IfSome files (λ tell. IsListOf (tell folder).failed failed)

-- there is no temporary file, where that is told
abbrev pub HasNoPartials : {D : Type 0} → Option (D → Files) → D → Type 0
HasNoPartials files folder = IfSome files (λ tell. (n : ℕ) → (tell folder).partial n ≡ None)

-- what is told of the files is the same
abbrev pub SameFiles : {D : Type 0} → Option (D → Files) → (old new : D) → Type 0
SameFiles files old new = IfSome files (λ tell. tell new ≡ tell old)

-- what is told of the jobs is the same
abbrev pub KeepsJobs : {D : Type 0} → Option (D → Files) → (old new : D) → Type 0
KeepsJobs files old new = IfSome files (λ tell. SameJobs (tell old) (tell new))

-- none of these numbers is this one or a greater one
abbrev pub IsAbove : ℕ → List ℕ → Type 0
IsAbove next numbers = (n : ℕ) → next ≤ n → count_by (λ number. number == n) numbers ≡ 0

-- one of these numbers is the greatest that 64 bits have
abbrev pub HasGreatest : List ℕ → Type 0
HasGreatest numbers = 0 < count_by (λ number. number == 18446744073709551615) numbers

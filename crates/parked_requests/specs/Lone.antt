-- What a spool knows of a job that is its only one, and what it answers for it.
use Rattle.std.specs.Prelude.{◌≡◌, ℕ, ◌+◌, ◌-◌, ◌^◌, ◌<◌, ◌≤◌, ◌++◌, ◌∷◌, ◌&&◌, not, Bool, true, false, List, [], Option, None, Some, IsSome, Result, Ok, Err, length, min, if◌then◌else◌}
use Rattle.std.specs.List.{list_all}
use Rattle.lpd_values.specs.Kept.{is_among}
use Rattle.lpd_values.specs.declared.limits.TheConstants.{MAX_FILES}
use Rattle.lpd_values.specs.declared.refusal.Refusal.{Refusal}
use Rattle.lpd_values.specs.declared.refusal.Refusal.TheVariants.{ControlTwice, FileOpen, FilesFull, Memory, NameTaken, OverClaim}
use Rattle.spool_calls.specs.declared.answers.Receipt.{Receipt}
use Rattle.spool_calls.specs.declared.answers.Receipt.TheVariants.{Stored, Received}
use Rattle.spool_history.specs.Legal.{pages_for}
use Rattle.parked_requests.specs.declared.lone.LoneJob.{LoneJob}

-- no file of the job is open
abbrev pub IsClosed : LoneJob → Type 0
IsClosed job = job.is_open ≡ false

-- none of its files has this name
abbrev pub HasNoFile : LoneJob → (name : List ℕ) → Type 0
HasNoFile job name = is_among name job.names ≡ false

-- it may have one more
abbrev pub HasFileRoom : LoneJob → Type 0
HasFileRoom job = length job.names < MAX_FILES

-- the pages of its files with those of one more of so many octets, which begins on a page of its own
abbrev pub pages_with : LoneJob → (count : ℕ) → ℕ
pages_with job count = job.pages + pages_for job.page_size count

-- a file of this name, of so many octets, may begin
pub record TakesFile (job : LoneJob) (name : List ℕ) (count : ℕ) : Type 0 where
  pub closed : IsClosed job
  pub fresh : HasNoFile job name
  pub room : HasFileRoom job
  pub within : pages_with job count ≤ job.limit

-- the cause of each refusal of a file; the first one that holds is due
abbrev pub RefusesFile : LoneJob → (name : List ℕ) → (count : ℕ) → Refusal → Type 0
RefusesFile job name count FileOpen = job.is_open ≡ true
RefusesFile job name count NameTaken = IsClosed job × (is_among name job.names ≡ true)
RefusesFile job name count FilesFull = IsClosed job × HasNoFile job name × (MAX_FILES ≤ length job.names)
RefusesFile job name count OverClaim =
    IsClosed job × HasNoFile job name × HasFileRoom job × (job.limit < pages_with job count)
RefusesFile job name count Memory = TakesFile job name count
RefusesFile job name count refusal = ⊥

-- The job as a file of so many octets begins, whatever its name. A number that is beyond its type's range is the greatest one.
abbrev pub with_size : (count : ℕ) → LoneJob → LoneJob
with_size count job = record job {
  octets = min (job.octets + count) (2 ^ 64 - 1);
  pages = min (pages_with job count) (2 ^ 32 - 1);
  is_open = true;
}

-- the job as a file of this name begins
abbrev pub with_file : (name : List ℕ) → (count : ℕ) → LoneJob → LoneJob
with_file name count job = record (with_size count job) { names = job.names ++ name ∷ [] }

-- the job as a file begins whose name may be known already
abbrev pub with_begun : (is_new : Bool) → (name : List ℕ) → (count : ℕ) → LoneJob → LoneJob
with_begun is_new name count job = if is_new then with_file name count job else with_size count job

-- a file begins, or is refused and changes nothing
abbrev pub BeginsFile : (old : LoneJob) → (name : List ℕ) → (count : ℕ) → Result (Unit {0}) Refusal → (new : LoneJob) → Type 0
BeginsFile old name count (Ok done) new = TakesFile old name count × (new ≡ with_file name count old)
BeginsFile old name count (Err refusal) new = RefusesFile old name count refusal × (new ≡ old)

-- a page may be lent: a file is open, and none is lent
abbrev pub may_lend : LoneJob → Bool
may_lend job = job.is_open && not job.is_lent

-- the job with a page that is lent to it, or with none
abbrev pub with_page : (is_lent : Bool) → LoneJob → LoneJob
with_page is_lent job = record job { is_lent = is_lent }

-- the job as its open file ends
abbrev pub with_end : LoneJob → LoneJob
with_end job = record job { is_open = false }

-- each name that is printed is that of a file
abbrev pub has_prints : Option (List (List ℕ)) → (names : List (List ℕ)) → Bool
has_prints None names = false
has_prints (Some prints) names = list_all (λ name. is_among name names) prints

-- a job is whole once its control file is there, each file that it prints has come, and none is coming
abbrev pub is_whole : LoneJob → Bool
is_whole job = not job.is_open && has_prints job.prints job.names

-- what is answered to a file that was taken
abbrev pub receipt_of : LoneJob → Receipt
receipt_of job = if is_whole job then Received else Stored

-- the job with a control file that prints these
abbrev pub with_prints : (prints : List (List ℕ)) → LoneJob → LoneJob
with_prints prints job = record job { prints = Some prints }

-- a control file that prints these is taken, or is refused and changes nothing
abbrev pub TakesControl : (old : LoneJob) → (prints : List (List ℕ)) → Result Receipt Refusal → (new : LoneJob) → Type 0
TakesControl old prints (Ok receipt) new =
    (old.prints ≡ None) × (new ≡ with_prints prints old) × (receipt ≡ receipt_of new)
TakesControl old prints (Err ControlTwice) new = IsSome old.prints × (new ≡ old)
TakesControl old prints (Err Memory) new = (old.prints ≡ None) × (new ≡ old)
TakesControl old prints (Err refusal) new = ⊥

-- nothing has come of a job that may have so many pages of so many octets
pub record IsNew (limit page_size : ℕ) (job : LoneJob) : Type 0 where
  pub names : job.names ≡ []
  pub prints : job.prints ≡ None
  pub octets : job.octets ≡ 0
  pub pages : job.pages ≡ 0
  pub limited : job.limit ≡ limit
  pub sized : job.page_size ≡ page_size
  pub closed : IsClosed job
  pub unlent : job.is_lent ≡ false

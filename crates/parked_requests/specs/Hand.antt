-- What a job in hand is answered that goes beside the spool.
use Rattle.std.specs.Prelude.{◌≡◌, ℕ, true, false, List, Option, None, Some}
use Rattle.lpd_values.specs.declared.refusal.Refusal.TheVariants.{ControlTwice, Memory, NotOpen}
use Rattle.receiver.specs.Script.{Request, Open, BeginFile, AskPage, Filled, EndFile, Control, AbortJob}
use Rattle.spool_calls.specs.declared.answers.Receipt.{Receipt}
use Rattle.spool_calls.specs.declared.answers.Receipt.TheVariants as receipt
use Rattle.spool_requests.specs.declared.answer.Answer.{Answer}
use Rattle.spool_requests.specs.declared.answer.Answer.TheVariants.{Yes, Accepted, Lent, Stored, Received, Refused}
use Rattle.parked_requests.specs.Lone.{IsNew, RefusesFile, TakesFile, is_whole, may_lend, with_end, with_file, with_page, with_prints}
use Rattle.parked_requests.specs.Told.{Fate, Kept, Gone, and_told}
use Rattle.parked_requests.specs.declared.lone.LoneJob.{LoneJob}

-- where no job is in hand the request is refused
abbrev pub AtJob : (LoneJob → Type 0) → (old : Option LoneJob) → Answer → (new : Option LoneJob) → Type 0
AtJob Says None answer new = (answer ≡ Refused NotOpen) × (new ≡ None)
AtJob Says (Some job) answer new = Says job

-- a job is in hand of which nothing has come
abbrev pub IsNewIn : (page_size : ℕ) → Option LoneJob → Type 0
IsNewIn page_size None = ⊥
IsNewIn page_size (Some job) = (limit : ℕ) × IsNew limit page_size job

-- a data file begins
abbrev pub BeginsAs : (name : List ℕ) → (count : ℕ) → LoneJob → Answer → Option LoneJob → Type 0
BeginsAs name count old Yes new = TakesFile old name count × (new ≡ Some (with_file name count old))
BeginsAs name count old (Refused refusal) new = RefusesFile old name count refusal × (new ≡ Some old)
BeginsAs name count old answer new = ⊥

-- a page is lent, of so many octets
abbrev pub LendsAs : (page_size : ℕ) → LoneJob → Answer → Option LoneJob → Type 0
LendsAs page_size old (Lent size) new = (may_lend old ≡ true) × (size ≡ page_size) × (new ≡ Some (with_page true old))
LendsAs page_size old (Refused NotOpen) new = (may_lend old ≡ false) × (new ≡ Some old)
LendsAs page_size old (Refused Memory) new = (may_lend old ≡ true) × (new ≡ Some old)
LendsAs page_size old answer new = ⊥

-- the page that was lent comes back
abbrev pub PutsAs : LoneJob → Answer → Option LoneJob → Type 0
PutsAs old Yes new = (old.is_lent ≡ true) × (new ≡ Some (with_page false old))
PutsAs old (Refused NotOpen) new = (old.is_lent ≡ false) × (new ≡ Some old)
PutsAs old answer new = ⊥

-- the open data file ends
abbrev pub EndsAs : LoneJob → Answer → Option LoneJob → Type 0
EndsAs old Stored new = (may_lend old ≡ true) × (is_whole (with_end old) ≡ false) × (new ≡ Some (with_end old))
EndsAs old Received new = (may_lend old ≡ true) × (is_whole (with_end old) ≡ true) × (new ≡ Some (with_end old))
EndsAs old (Refused NotOpen) new = (may_lend old ≡ false) × (new ≡ Some old)
EndsAs old answer new = ⊥

-- a control file comes that prints these
abbrev pub ControlsAs : (prints : List (List ℕ)) → LoneJob → Answer → Option LoneJob → Type 0
ControlsAs prints old Stored new =
    (old.prints ≡ None) × (is_whole (with_prints prints old) ≡ false) × (new ≡ Some (with_prints prints old))
ControlsAs prints old Received new =
    (old.prints ≡ None) × (is_whole (with_prints prints old) ≡ true) × (new ≡ Some (with_prints prints old))
ControlsAs prints old (Refused ControlTwice) new = (old.prints ≡ None → ⊥) × (new ≡ Some old)
ControlsAs prints old (Refused Memory) new = (old.prints ≡ None) × (new ≡ Some old)
ControlsAs prints old answer new = ⊥

-- what a request is answered, and what it makes of the job in hand; no other request is of a job
abbrev pub Says : (page_size : ℕ) → (old : Option LoneJob) → Request → Answer → (new : Option LoneJob) → Type 0
Says page_size old (Open queue) answer new = (answer ≡ Accepted 0) × IsNewIn page_size new
Says page_size old (BeginFile name count) answer new = AtJob (λ job. BeginsAs name count job answer new) old answer new
Says page_size old AskPage answer new = AtJob (λ job. LendsAs page_size job answer new) old answer new
Says page_size old (Filled page) answer new = AtJob (λ job. PutsAs job answer new) old answer new
Says page_size old EndFile answer new = AtJob (λ job. EndsAs job answer new) old answer new
Says page_size old (Control said) answer new = AtJob (λ job. ControlsAs said.prints job answer new) old answer new
Says page_size old AbortJob answer new = (answer ≡ Yes) × (new ≡ None)
Says page_size old r answer new = ⊥

-- the job in hand after a file that was taken, or was refused: None
abbrev pub still_in_hand : Option Receipt → Option LoneJob → Option LoneJob
still_in_hand (Some receipt.Stored) job = job
still_in_hand receipt job = None

-- a job that is whole is in hand no more, nor one whose last data file or control file was refused
abbrev pub settled : Answer → Option LoneJob → Option LoneJob
settled Stored job = job
settled answer job = None

abbrev pub settled_by : Request → Answer → Option LoneJob → Option LoneJob
settled_by EndFile answer job = settled answer job
settled_by (Control said) answer job = settled answer job
settled_by r answer job = job

-- what a request is answered, and what is in hand then
pub record Answers (page_size : ℕ) (old : Option LoneJob) (r : Request) (answer : Answer) (new : Option LoneJob) : Type 0 where
  pub job : Option LoneJob
  pub said : Says page_size old r answer job
  pub settled : new ≡ settled_by r answer job

-- the ways are told that the job in hand is whole, if there is one
abbrev pub tells_kept : Option LoneJob → Option (List Fate) → Option (List Fate)
tells_kept None told = told
tells_kept (Some job) told = and_told (Kept job.octets job.pages) told

-- they are told that it doesn't come to its end
abbrev pub tells_gone : Option LoneJob → Option (List Fate) → Option (List Fate)
tells_gone None told = told
tells_gone (Some job) told = and_told Gone told

-- of a file that was taken, or was refused: None
abbrev pub tells_receipt : Option Receipt → Option LoneJob → Option (List Fate) → Option (List Fate)
tells_receipt (Some receipt.Stored) job told = told
tells_receipt (Some receipt.Received) job told = tells_kept job told
tells_receipt None job told = tells_gone job told

abbrev pub tells_answer : Answer → Option LoneJob → Option (List Fate) → Option (List Fate)
tells_answer Stored job told = told
tells_answer Received job told = tells_kept job told
tells_answer answer job told = tells_gone job told

-- what a request that is answered so tells the ways of the job that was in hand
abbrev pub tells_by : Request → Answer → Option LoneJob → Option (List Fate) → Option (List Fate)
tells_by (Open queue) answer job told = tells_gone job told
tells_by EndFile answer job told = tells_answer answer job told
tells_by (Control said) answer job told = tells_answer answer job told
tells_by AbortJob answer job told = tells_gone job told
tells_by r answer job told = told

-- the job in hand, changed
abbrev pub at_job : (LoneJob → LoneJob) → Option LoneJob → Option LoneJob
at_job change None = None
at_job change (Some job) = Some (change job)

-- What is known of each job: its file, or how it ended.
use Rattle.std.specs.Prelude.{◌≡◌, ◌≢◌, ℕ, Option, None, Some, nat_eq}
use Rattle.std.specs.HashMap.{get, spare}
use Rattle.job_files.specs.declared.table.JobEntry.{JobEntry}
use Rattle.job_files.specs.declared.table.JobEntry.TheVariants.{Ended, File}
use Rattle.job_files.specs.declared.table.JobEnd.{JobEnd}
use Rattle.job_files.specs.declared.table.JobFiles.{JobFiles}

-- what is known of a job
abbrev pub entry_of : JobFiles → ℕ → Option JobEntry
entry_of files job = get nat_eq files.entries job

-- for how many jobs more there is room
abbrev pub room_of : JobFiles → ℕ
room_of files = spare files.entries

-- how a job ended of which this is known
abbrev pub how_ended : Option JobEntry → Option JobEnd
how_ended (Some (Ended end)) = Some end
how_ended (Some (File file)) = None
how_ended None = None

-- the file of a job of which this is known
abbrev pub file_in : Option JobEntry → Option ℕ
file_in (Some (File file)) = Some file
file_in (Some (Ended end)) = None
file_in None = None

-- the job whose file this is, or none is known
abbrev pub IsJobOf : JobFiles → (file : ℕ) → Option ℕ → Type 0
IsJobOf files file (Some job) = file_in (entry_of files job) ≡ Some file
IsJobOf files file None = (job : ℕ) → file_in (entry_of files job) ≡ Some file → ⊥

-- what is known of a job, of which this was known, once its file is this one
abbrev pub passed : Option JobEntry → ℕ → Option JobEntry
passed (Some (Ended end)) file = None
passed (Some (File other)) file = Some (File file)
passed None file = Some (File file)

-- what is known of a job, of which this was known, once it ended so
abbrev pub ended : Option JobEntry → JobEnd → Option JobEntry
ended (Some (File file)) end = None
ended (Some (Ended other)) end = Some (Ended end)
ended None end = Some (Ended end)

-- this is known of the job, and of each other one what was known
pub record Becomes (old new : JobFiles) (job : ℕ) (entry : Option JobEntry) : Type 0 where
  pub this_job : entry_of new job ≡ entry
  pub other_jobs : (q : ℕ) → q ≢ job → entry_of new q ≡ entry_of old q

-- of each job what was known is known
abbrev pub Stays : (old new : JobFiles) → Type 0
Stays old new = (q : ℕ) → entry_of new q ≡ entry_of old q

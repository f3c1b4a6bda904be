-- What contracts see of a book of held jobs.
use Rattle.std.specs.Prelude.{◌≡◌, ℕ, false, List, None, [], slice_index_or, slice_set}
use Rattle.page_chain.specs.Files.{Files}
use Rattle.lpd_values.specs.Told.{prints_in}
use Rattle.held_jobs.specs.Jobs.{HeldJob, no_job}

-- the held jobs in order of acceptance; how many pages are in the chains of all of them; how many jobs and pages there is
-- room for, and the octets of a page
pub record Books : Type 0 where
  pub jobs : List HeldJob
  pub stored : ℕ
  pub max_jobs : ℕ
  pub pages : ℕ
  pub page_size : ℕ

-- the job at a place
abbrev pub job_at : Books → ℕ → HeldJob
job_at b i = slice_index_or b.jobs i no_job

-- the book, with this job at a place
abbrev pub with_job : Books → ℕ → HeldJob → Books
with_job b i j = record b { jobs = slice_set b.jobs i j }

-- no file is open, no place is still to be handed out, and none was
pub record IsIdle (v : Files) : Type 0 where
  pub closed : v.is_open ≡ false
  pub placed : v.places ≡ []
  pub fresh : v.last ≡ None

-- the names that a job prints, as its control file has them
abbrev pub prints_of : HeldJob → List (List ℕ)
prints_of j = prints_in j.facts.control

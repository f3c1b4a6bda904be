-- What each call makes of a held job.
use Rattle.std.specs.Prelude.{◌≡◌, ℕ, ◌+◌, ◌-◌, ◌<◌, min, true, false, List, [], ◌∷◌, ◌++◌, Some, length}
use Rattle.lpd_values.specs.Contents.{Contents}
use Rattle.page_pool.specs.Page.{Page}
use Rattle.page_chain.specs.Files.{every_page}
use Rattle.page_chain.specs.Changes.{begun, with_page, placed, taken, given_again, emptied, unnamed_pages}
use Rattle.held_jobs.specs.declared.file.DataFile.{DataFile}
use Rattle.held_jobs.specs.declared.phase.Phase.TheVariants.{Receiving, Received, Ended}
use Rattle.held_jobs.specs.Jobs.{Facts, HeldJob, last_size, new_job}
use Rattle.held_jobs.specs.Books.{Books, job_at, prints_of, with_job}

-- a page was lent to it
abbrev pub lent_facts : Facts → Facts
lent_facts j = record j { granted = j.granted + 1; lent = true }

-- the lent page came back
abbrev pub unlent_facts : Facts → Facts
unlent_facts j = record j { lent = false }

-- a data file began
abbrev pub begun_facts : List ℕ → ℕ → Facts → Facts
begun_facts name count j = record j { files = j.files ++ record { name = name; count = count; left = count; pages = 0 } ∷ [] }

-- the files, with a page of so many octets more in the last
abbrev pub filled : ℕ → List DataFile → List DataFile
filled len [] = []
filled len (f ∷ []) = record f { left = f.left - len; pages = f.pages + 1 } ∷ []
filled len (f ∷ g ∷ fs) = f ∷ filled len (g ∷ fs)

-- the lent page came with so many octets on it
abbrev pub put_facts : ℕ → Facts → Facts
put_facts len j = record j { lent = false; files = filled len j.files }

-- its control file came
abbrev pub controlled_facts : Contents → Facts → Facts
controlled_facts control j = record j { control = Some control }

-- it is received
abbrev pub received_facts : Facts → Facts
received_facts j = record j { phase = Received }

-- its next place was handed to a printer
abbrev pub handed_facts : Facts → Facts
handed_facts j = record j { handed = j.handed + 1 }

-- a page of it came back from a printer
abbrev pub back_facts : Facts → Facts
back_facts j = record j { back = j.back + 1 }

-- it has ended
abbrev pub ended_facts : Facts → Facts
ended_facts j = record j { phase = Ended }

-- a change of what is known alone
abbrev pub told : (Facts → Facts) → HeldJob → HeldJob
told f j = record j { facts = f j.facts }

abbrev pub begun_job : List ℕ → ℕ → HeldJob → HeldJob
begun_job name count j = record { facts = begun_facts name count j.facts; chain = begun name j.chain }

abbrev pub put_job : Page → HeldJob → HeldJob
put_job page j = record {
  facts = put_facts (length page.octets) j.facts;
  chain = record j.chain { files = with_page j.chain.files page };
}

abbrev pub closed_file : HeldJob → HeldJob
closed_file j = record j { chain = record j.chain { is_open = false } }

abbrev pub received_job : List (List ℕ) → HeldJob → HeldJob
received_job prints j = record { facts = received_facts j.facts; chain = placed prints j.chain }

abbrev pub handed_job : HeldJob → HeldJob
handed_job j = record { facts = handed_facts j.facts; chain = taken j.chain }

-- its page came back, for a later place of the same page
abbrev pub again_job : Page → HeldJob → HeldJob
again_job page j = record { facts = back_facts j.facts; chain = given_again page j.chain }

-- it has ended, and its pages went back to the pool
abbrev pub drained_job : HeldJob → HeldJob
drained_job j = record { facts = ended_facts j.facts; chain = emptied j.chain }

-- a file is open, no page is lent to it, and it is being received
abbrev pub MayAsk : HeldJob → Type 0
MayAsk j = (j.facts.phase ≡ Receiving) × (j.chain.is_open ≡ true) × (j.facts.lent ≡ false)

-- a page with so many octets is the next one of its open file, and lent to it
abbrev pub Awaits : HeldJob → ℕ → ℕ → Type 0
Awaits j len page_size =
    (j.facts.phase ≡ Receiving) × (j.facts.lent ≡ true) × (j.chain.is_open ≡ true)
    × (0 < (last_size j.facts.files).left) × (len ≡ min page_size (last_size j.facts.files).left)

-- its open file has all its octets, and no page is lent to it
abbrev pub CanEnd : HeldJob → Type 0
CanEnd j =
    (j.facts.phase ≡ Receiving) × (j.facts.lent ≡ false) × (j.chain.is_open ≡ true) × ((last_size j.facts.files).left ≡ 0)

-- how many pages lie in its files, and how many of them in files that it doesn't print
abbrev pub pages_of : HeldJob → ℕ
pages_of j = length (every_page j.chain.files)

abbrev pub unnamed_of : HeldJob → ℕ
unnamed_of j = length (unnamed_pages j.chain.files (prints_of j))

-- the book, where the job at a place was changed so
abbrev pub changed : (HeldJob → HeldJob) → Books → ℕ → Books
changed f b i = with_job b i (f (job_at b i))

-- where a job was accepted
abbrev pub with_new : Books → (number sender queue : ℕ) → Books
with_new b number sender queue = record b { jobs = b.jobs ++ new_job number sender queue ∷ [] }

-- where a page was put into its open file
abbrev pub put_in : Page → Books → ℕ → Books
put_in page b i = record (changed (put_job page) b i) { stored = b.stored + 1 }

-- where it was received, and the pages that it doesn't print went to the pool
abbrev pub received_in : Books → ℕ → Books
received_in b i = record (with_job b i (received_job (prints_of (job_at b i)) (job_at b i))) {
  stored = b.stored - unnamed_of (job_at b i);
}

-- where the page of its next place went to a printer
abbrev pub handed_in : Books → ℕ → Books
handed_in b i = record (changed handed_job b i) { stored = b.stored - 1 }

-- where a page came back for a later place of the same page
abbrev pub again_in : Page → Books → ℕ → Books
again_in page b i = record (changed (again_job page) b i) { stored = b.stored + 1 }

-- where it has ended, and so many pages of it went to the pool
abbrev pub drained_in : ℕ → Books → ℕ → Books
drained_in count b i = record (changed drained_job b i) { stored = b.stored - count }

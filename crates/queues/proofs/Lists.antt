-- The jobs of a book, by what is known of each.
use Rattle.std.proofs.Common.{◌≡◌, ℕ, ◌<◌, ◌≤◌, Bool, List, [], ◌∷◌, length, get_or, map, take, sym, ◌∙◌, ap, arith}
use Rattle.std.specs.Prelude.{Option, Some, None}
use Rattle.std.specs.List.{flat_map, slice_get}
use Rattle.std.proofs.lemmas.Option.{slice_get-get_or}
use Rattle.std.proofs.lemmas.List.{take_all}
use Rattle.std.proofs.lemmas.List.Concat.{flat_map_single}
use Rattle.told_jobs.specs.Jobs as J
use Rattle.held_jobs.specs.Jobs.{Facts}
use Rattle.held_jobs.specs.Books.{Books, job_at}
use Rattle.held_jobs.specs.Turns.{FirstOf, facts_in, no_facts}
use Rattle.queues.proofs.Firsts.{facts_at, facts_len}

-- what is known of the job at a place
pub known_at : (b : Books) (i : ℕ) (j : Facts) → i < length b.jobs → j ≡ (job_at b i).facts → get_or (facts_in b.jobs) i no_facts ≡ j
known_at b i j lt e = facts_at b.jobs i lt ∙ sym e

-- which is there
pub stands_at : (b : Books) (i : ℕ) (j : Facts) → i < length b.jobs → j ≡ (job_at b i).facts → slice_get (facts_in b.jobs) i ≡ Some j
stands_at b i j lt e =
    let n = facts_len b.jobs in
    slice_get-get_or (facts_in b.jobs) i no_facts (omega (arith, n, lt)) ∙ ap Some (known_at b i j lt e)

-- all jobs, once the last was passed
pub all_taken : (b : Books) (i n : ℕ) → n ≡ length b.jobs → n ≤ i → take i (facts_in b.jobs) ≡ facts_in b.jobs
all_taken b i n e le = (let m = facts_len b.jobs in take_all i (facts_in b.jobs) (omega arith))

-- the first that passes a test, with no job past the last
pub first_known : (test : Facts → Bool) (js : List Facts) (r : Option ℕ) → J.FirstOf test js r → FirstOf test js r
first_known test js None f = f no_facts
first_known test js (Some i) f = (f.0, (f.1 no_facts).0, (f.1 no_facts).1)

-- the numbers of jobs
pub numbers_in : (js : List Facts) → flat_map (λ (j : Facts). j.number ∷ []) js ≡ map (λ (j : Facts). j.number) js
numbers_in js = flat_map_single (λ (j : Facts). j.number) js

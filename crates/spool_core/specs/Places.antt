-- Where requests of a queue are taken, where a job is accepted, and which one awaits its control file, as a core keeps them.
use Rattle.std.specs.Prelude.{◌≡◌, ℕ, ◌+◌, ◌<◌, ◌≤◌, ◌^◌, false, None, length}
use Rattle.config_values.specs.Config.{IsQueue, reserve_of}
use Rattle.held_jobs.specs.declared.phase.Phase.TheVariants.{Receiving}
use Rattle.held_jobs.specs.Books.{job_at}
use Rattle.spool_calls.specs.Kept.{Kept}

-- requests of the queue of this number are taken: the spool is open, and there is such a queue
pub record Takes (k : Kept) (q : ℕ) : Type 0 where
  pub open' : k.closed ≡ false
  pub is : IsQueue k.config q

-- one more job of the queue of this number may be accepted, but for want of memory
pub record Accepts (k : Kept) (q : ℕ) : Type 0 where
  pub open' : k.closed ≡ false
  pub is : IsQueue k.config q
  pub few : length k.book.jobs < k.config.max_jobs
  pub room : k.reserved + reserve_of k.config q + 1 ≤ k.config.account
  pub number : k.accepted + 1 < 2 ^ 64

-- the job of this number stands at this place, is being received, and has no control file
pub record LacksControl (k : Kept) (job i : ℕ) : Type 0 where
  pub there : i < length k.book.jobs
  pub number : (job_at k.book i).facts.number ≡ job
  pub receiving : (job_at k.book i).facts.phase ≡ Receiving
  pub none : (job_at k.book i).facts.control ≡ None

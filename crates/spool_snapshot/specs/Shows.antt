-- What a snapshot says of where a history leaves a spool.
use Rattle.std.specs.Prelude.{◌≡◌, ℕ, List, map}
use Rattle.spool_history.specs.Base.{Base}
use Rattle.spool_history.specs.Claimed.{IsTableOf}
use Rattle.spool_history.specs.Events.{Event}
use Rattle.spool_history.specs.Now as N
use Rattle.spool_history.specs.Now.{State}
use Rattle.spool_calls.specs.declared.printer.Printer.{Printer}
use Rattle.spool_calls.specs.Looks.{Detail, What}
use Rattle.spool_calls.specs.Kept.{Kept, facts_of, kept_printer}
use Rattle.spool_calls.specs.Calls.{before}
use Rattle.spool_calls.specs.Readers.{ArePlaced, placed}
use Rattle.spool_snapshot.specs.declared.job.SeenJob.{SeenJob}
use Rattle.spool_snapshot.specs.declared.snapshot.Snapshot.{Snapshot}
use Rattle.spool_snapshot.specs.Jobs.{seen_job}

-- what a snapshot has of a job of a history
abbrev pub seen_of : (d : Detail) (k : Kept) → N.Job (What d) → SeenJob
seen_of d k v = seen_job (facts_of k.config v)

-- the snapshot shows where the history leaves the spool
pub record Shows (d : Detail) (b : Base) (h : List (Event (What d))) (k : Kept) (s : Snapshot) : Type 0 where
  -- the held jobs, each once, in order of acceptance
  pub jobs : s.jobs.items ≡ map (seen_of d k) (before d b h k).jobs
  -- what each holds and may still need, and what is free
  pub claims : IsTableOf s.claims (before d b h k)
  -- each page has one place, and there are no others
  pub pages : ArePlaced d b h k (placed s.pages.free s.pages.chained s.pages.lent s.pages.out)
  pub printers : s.printers.items ≡ map (kept_printer d) (before d b h k).printers
  pub accepted : s.accepted ≡ (before d b h k).accepted
  pub reserved : s.reserved ≡ (before d b h k).reserved
  pub closed : s.closed ≡ (before d b h k).closed

-- What the readers of a core say after a history.
use Rattle.std.specs.Prelude.{◌≡◌, ℕ, ◌+◌, ◌==◌, ◌&&◌, true, List, count_by, length}
use Rattle.spool_history.specs.Base.{Base}
use Rattle.spool_history.specs.Events.{Event}
use Rattle.spool_history.specs.Acts.{is_open_in}
use Rattle.spool_history.specs.Now.{Printer, free_pages}
use Rattle.spool_history.specs.Legal.{HasJob, HasOpen, IsReceiving}
use Rattle.spool_laws.specs.Sums.{at_printers, chained, lent}
use Rattle.spool_calls.specs.Looks.{Detail, What}
use Rattle.spool_calls.specs.Kept.{Kept}
use Rattle.spool_calls.specs.Calls.{before}

-- how many pages are free, in the chains of jobs, lent to sessions, and out at printers
pub record Placed : Type 0 where
  pub free : ℕ
  pub chained : ℕ
  pub lent : ℕ
  pub out : ℕ

abbrev pub placed : (free chained lent out : ℕ) → Placed
placed free chained lent out = record { free = free; chained = chained; lent = lent; out = out }

-- so many pages of a spool are there
pub record ArePlaced (d : Detail) (b : Base) (h : List (Event (What d))) (k : Kept) (p : Placed) : Type 0 where
  pub free_is : p.free ≡ free_pages (before d b h k)
  pub chain_is : p.chained ≡ chained (before d b h k)
  pub session_is : p.lent ≡ lent (before d b h k)
  pub printer_is : p.out ≡ at_printers (before d b h k)
  -- there are no others
  pub all : p.chained + p.lent + p.out + p.free ≡ k.config.pages

module _ (d : Detail) (b : Base) (h : List (Event (What d))) (k : Kept) where
  -- how many printers of a queue are stopped
  abbrev pub stopped_for : ℕ → ℕ
  stopped_for q = count_by (λ (p : Printer (What d)). (p.queue == q) && p.stopped) (before d b h k).printers

  -- a job is being received, and a file of it is open
  abbrev pub HasOpenFile : ℕ → Type 0
  HasOpenFile job = HasJob (before d b h k).jobs job (λ v. IsReceiving v × (is_open_in v.files ≡ true))

  -- the open file has this number, and so many pages of it were put
  abbrev pub IsOpenFile : ℕ → (file pages : ℕ) → Type 0
  IsOpenFile job file pages = HasJob (before d b h k).jobs job (λ v. IsReceiving v × HasOpen v.files file (λ f. length f.pages ≡ pages))

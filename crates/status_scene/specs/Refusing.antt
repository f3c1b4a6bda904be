-- Whether jobs are refused, or wait for pages that nobody gives back.
use Rattle.std.specs.Prelude.{ℕ, ◌+◌, ◌-◌, ◌/◌, ◌^◌, ◌==◌, ◌&&◌, ◌||◌, Bool, not, List, [], ◌∷◌, Option, Some, None, find, if◌then◌else◌, length, nat_le, nat_lt}
use Rattle.claims.specs.declared.row.Row.{Row}
use Rattle.config_values.specs.Config.{Config, reserve_of}
use Rattle.counts.specs.Amounts.{amount}
use Rattle.spool_calls.specs.declared.printer.Printer.{Printer}
use Rattle.spool_snapshot.specs.declared.snapshot.Snapshot.{Snapshot}
use Rattle.standings.specs.declared.noted.EdgeNotes.{EdgeNotes}
use Rattle.standings.specs.Noted.{is_held}
use Rattle.standings.specs.Printers.{count_at, is_reached_for}
use Rattle.standings.specs.Turns.{counted}

-- as many jobs are held as may be
abbrev pub has_full_table : Config → Snapshot → Bool
has_full_table c s = nat_le c.max_jobs (length s.jobs.items)

-- A job of a queue is refused: as many are held as may be, or what is left of the account isn't more than what may be added for it, since one
-- entry stays for the close.
abbrev pub refuses : Config → Snapshot → (queue : ℕ) → Bool
refuses c s queue = has_full_table c s || nat_le (c.account - s.reserved) (reserve_of c queue)

-- a job of the queue at a place is refused; queues are numbered from 1, by numbers of 32 bits
abbrev pub is_refused_at : Config → Snapshot → ℕ → Bool
is_refused_at c s at = nat_lt (at + 1) (2 ^ 32) && refuses c s (at + 1)

-- no page is free, or a job waits for a page
abbrev pub has_full_pool : Snapshot → EdgeNotes → Bool
has_full_pool s e = (s.pages.free == 0) || not (length e.put_off.now == 0)

-- nothing is printed of a queue: it is held, or no printer of it runs and is reached
abbrev pub is_stuck : EdgeNotes → List Printer → (queue : ℕ) → Bool
is_stuck e printers queue = is_held e.held.now queue || (count_at (is_reached_for e.printers.now queue) 0 printers == 0)

-- how many pages the jobs of a queue hold, as far as 64 bits count
abbrev pub pages_for : (queue : ℕ) → List Row → ℕ
pages_for queue [] = 0
pages_for queue (row ∷ rows) = counted ((if row.queue == queue then amount row.held 0 else 0) + pages_for queue rows)

-- the jobs of a queue hold more than half of so many pages, and nothing is printed of it
abbrev pub fills_pool : EdgeNotes → List Printer → List Row → ℕ → (queue : ℕ) → Bool
fills_pool e printers all total queue = nat_lt (total / 2) (pages_for queue all) && is_stuck e printers queue

abbrev pub queue_in : Option Row → Option ℕ
queue_in None = None
queue_in (Some row) = Some row.queue

-- the first such queue of these rows
abbrev pub filling_queue : EdgeNotes → List Printer → (all : List Row) → ℕ → List Row → Option ℕ
filling_queue e printers all total rows = queue_in (find (λ (row : Row). fills_pool e printers all total row.queue) rows)

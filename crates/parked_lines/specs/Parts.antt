-- How many pages a file has, and how much of a spool one queue may have.
use Rattle.std.specs.Prelude.{ℕ, Bool, List, ◌+◌, ◌-◌, ◌*◌, ◌/◌, ◌^◌, ◌&&◌, count_by, fold, max, min, nat_le, nat_lt}
use Rattle.std.specs.Int.{div_ceil}
use Rattle.parked_lines.specs.declared.job.ParkedJob.{ParkedJob}
use Rattle.parked_lines.specs.declared.parts.FreePart.{FreePart}
use Rattle.parked_lines.specs.declared.parts.SpoolShape.{SpoolShape}
use Rattle.parked_lines.specs.declared.state.ParkState.{ParkState}
use Rattle.parked_lines.specs.declared.state.ParkState.TheVariants.{Coming, Fed, Whole}
use Rattle.parked_lines.specs.States.{is_in_spool}

-- the pages of a file, the last of which may be part full
abbrev pub pages_of : (octets page_size : ℕ) → ℕ
pages_of octets page_size = div_ceil octets page_size

-- the rows of a queue: one for each printer and one more, or its share of half the table
abbrev pub row_part : SpoolShape → (printers : ℕ) → ℕ
row_part spool printers = max (printers + 1) (spool.max_jobs / (2 * max 1 spool.queues))

-- the pages of a queue: its limit, or its share of half the pool among the queues that have jobs
abbrev pub page_part : SpoolShape → (limit busy_queues : ℕ) → ℕ
page_part spool limit busy_queues = max limit (spool.pages / (2 * max 1 busy_queues))

-- one job more has room that may come to so many pages
abbrev pub has_room : FreePart → (pages : ℕ) → Bool
has_room free pages = nat_lt 0 free.rows && nat_le pages free.pages

-- the pages of the pool that a job has in this state: all that it may come to while it comes, and its own once it is kept
abbrev pub pages_in_state : (limit pages : ℕ) → ParkState → ℕ
pages_in_state limit pages Coming = limit
pages_in_state limit pages Fed = pages
pages_in_state limit pages Whole = pages
pages_in_state limit pages _ = 0

-- the rows of the table that jobs have
abbrev pub rows_used : List ParkedJob → ℕ
rows_used jobs = count_by (λ job. is_in_spool job.state) jobs

-- the pages of the pool that jobs have, one of which may come to this limit, as far as 64 bits can count them
abbrev pub pages_used : (limit : ℕ) → List ParkedJob → ℕ
pages_used limit jobs =
    fold (λ so_far (job : ParkedJob). min (so_far + pages_in_state limit job.pages job.state) (2 ^ 64 - 1)) 0 jobs

-- How jobs end in the book, the pool and the table of a core.
use Rattle.std.specs.Prelude.{◌≡◌, ◌==◌, ◌||◌, ◌+◌, ◌-◌, ◌<◌, ◌≤◌, ◌^◌, ℕ, Bool, true, not, List, cond, count_by, filter, length, map, remove, Contains}
use Rattle.std.specs.List.{list_any}
use Rattle.counts.specs.Amounts.{amount}
use Rattle.claims.specs.Claims.{Claims, row_at}
use Rattle.claims.specs.Changes.{closed, given_back, need_ended}
use Rattle.page_pool.specs.Page.{Pages}
use Rattle.page_chain.specs.Files.{every_page}
use Rattle.held_jobs.specs.Jobs.{Facts, HeldJob}
use Rattle.held_jobs.specs.Books.{Books, job_at, with_job}
use Rattle.held_jobs.specs.Moves.{drained_job}
use Rattle.held_jobs.specs.Turns.{is_ended}
use Rattle.config_values.specs.Config.{Config, IsQueue}
use Rattle.spool_history.specs.Now.{Job, State, free_pages, is_held, pages_held, pages_out, places}
use Rattle.spool_history.specs.Claimed.{IsTableOf}
use Rattle.spool_laws.specs.Sums.{chained_of}
use Rattle.spool_calls.specs.Looks.{Detail, What}
use Rattle.spool_calls.specs.Kept.{IsBookOf}

-- the parts of a core in which jobs end
pub record Stock : Type 0 where
  pub book : Books
  pub pool : Pages
  pub table : Claims

abbrev pub stock : Books → Pages → Claims → Stock
stock book pool table = record { book = book; pool = pool; table = table }

-- they are what is kept of this state
pub record IsStockOf (d : Detail) (v : State (What d)) (s : Stock) : Type 0 where
  pub book : IsBookOf d v s.book
  pub table : IsTableOf s.table v
  pub pool : s.pool ≡ record { page_size = v.config.page_size; pages = v.config.pages; free = free_pages v }

-- the state with other jobs
abbrev pub with_jobs : {C : Type 0} → State C → List (Job C) → State C
with_jobs v jobs = record v { jobs = jobs }

-- the pages that a job holds are those in its chain and those that are out
abbrev pub HeldAddsUp : {C : Type 0} → Job C → Type 0
HeldAddsUp x = pages_held x ≡ chained_of x + pages_out x

-- what is known of each held job
pub record MayEnd {C : Type 0} (c : Config) (x : Job C) : Type 0 where
  pub held : is_held x ≡ true
  pub adds_up : HeldAddsUp x
  pub queued : IsQueue c x.queue
  pub back : x.back ≤ x.handed
  pub out : x.handed ≤ x.back + 1
  pub within : x.handed ≤ length (places x)

-- each of these jobs may end
abbrev pub AllMayEnd : {C : Type 0} → State C → Type 0
AllMayEnd {C} v = (x : Job C) → Contains v.jobs x → MayEnd v.config x

-- the stock is what is kept of some state
abbrev pub IsStocked : Stock → Type 0
IsStocked s = (d : Detail) × (v : State (What d)) × AllMayEnd v × IsStockOf d v s

-- how many pages the job at a place has in its chain
abbrev pub pages_at : Books → ℕ → ℕ
pages_at book i = length (every_page (job_at book i).chain.files)

-- a page of a job is lent, or at a printer
abbrev pub is_out : Facts → Bool
is_out g = g.lent || not (g.handed == g.back)

-- to how many of these jobs a page is lent
abbrev pub lent_among : List HeldJob → ℕ
lent_among jobs = count_by (λ (j : HeldJob). j.facts.lent) jobs

-- the job at a place ends while a page of it is out
abbrev pub stock_ended : Stock → ℕ → Stock
stock_ended s i = record {
  book = record (with_job s.book i (drained_job (job_at s.book i))) { stored = s.book.stored - pages_at s.book i };
  pool = record s.pool { free = s.pool.free + pages_at s.book i };
  table = given_back (need_ended (need_ended s.table i 0) i (job_at s.book i).facts.queue) i 0 (pages_at s.book i);
}

-- the job at a place ends and goes
abbrev pub stock_gone : Stock → ℕ → Stock
stock_gone s i = record {
  book = record s.book { jobs = remove s.book.jobs i; stored = s.book.stored - pages_at s.book i };
  pool = record s.pool { free = s.pool.free + pages_at s.book i };
  table = closed s.table i;
}

-- the job at a place ends, unless it has
abbrev pub stock_after : Stock → ℕ → Stock
stock_after s i =
    cond (is_ended (job_at s.book i).facts.phase) s (cond (is_out (job_at s.book i).facts) (stock_ended s i) (stock_gone s i))

-- what that asks of the stock
pub record CanEnd (s : Stock) (i : ℕ) : Type 0 where
  pub here : i < length s.book.jobs
  pub size : s.pool.page_size ≡ s.book.page_size
  pub room : s.pool.free + pages_at s.book i ≤ s.pool.pages
  pub row : i < length s.table.rows
  pub kind : 0 < length s.table.capacity
  pub queue : (job_at s.book i).facts.queue < length s.table.capacity
  pub held : pages_at s.book i ≤ amount (row_at s.table.rows i).held 0
  pub small : pages_at s.book i < 2 ^ 32

-- a job ends where the test says yes to its number
abbrev pub marked : {C : Type 0} → (ℕ → Bool) → Job C → Job C
marked ends x = cond (ends x.number) (record x { ended = true }) x

-- these jobs, once those end; the ones of which no page is out go
abbrev pub left_when : {C : Type 0} → (ℕ → Bool) → List (Job C) → List (Job C)
left_when ends jobs = filter is_held (map (marked ends) jobs)

-- of whatever state a stock is kept, the other is kept of that state with the chosen jobs ended
abbrev pub EndsTo : (ℕ → Bool) → Stock → Stock → Type 0
EndsTo ends s t =
    (d : Detail) (v : State (What d)) → AllMayEnd v → IsStockOf d v s → IsStockOf d (with_jobs v (left_when ends v.jobs)) t

-- every job ends
abbrev pub all_end : ℕ → Bool
all_end n = true

-- the jobs of these numbers end
abbrev pub listed : List ℕ → ℕ → Bool
listed numbers n = list_any (λ k. k == n) numbers

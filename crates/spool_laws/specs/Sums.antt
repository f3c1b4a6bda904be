-- The pages of a spool, and where each of them is.
use Rattle.std.specs.Prelude.{◌≡◌, ℕ, ◌+◌, ◌-◌, ◌==◌, ◌≤◌, List, map, length, filter, sum_by, count_by, is_some, if◌then◌else◌}
use Rattle.counts.specs.Amounts.{amount}
use Rattle.claims.specs.Claims.{held_of}
use Rattle.spool_history.specs.Events.{Event}
use Rattle.config_values.specs.Config.{IsQueue, Config, queue_at}
use Rattle.spool_history.specs.Base.{Base}
use Rattle.spool_history.specs.Acts.{File}
use Rattle.spool_history.specs.Now.{Job, Printer, State, now, is_received, pages_held, pages_kept, printers_held, row_of, capacity, free_pages}
use Rattle.spool_history.specs.Legal.{IsLegal}

-- how many pages the held jobs hold
abbrev pub held_pages : {C : Type 0} → Config → Base → List (Event C) → ℕ
held_pages {C} c b h = sum_by (λ (v : Job C). pages_held v) (now c b h).jobs

-- they hold no more than there are, and those that are free make up the rest
pub record AddUp {C : Type 0} (c : Config) (b : Base) (h : List (Event C)) : Type 0 where
  pub within : held_pages c b h ≤ c.pages
  pub all : free_pages (now c b h) + held_pages c b h ≡ c.pages

abbrev pub PagesAddUp : Type 0 → Type 0
PagesAddUp C =
    (size : C → ℕ) (c : Config) (b : Base) (h : List (Event C)) → IsLegal size c b h → AddUp c b h

-- what a job has in its chains: while it is being received, the pages of all its files; once it is received, those of
-- which some place hasn't come back and that are not at a printer; and once it has ended, none
abbrev pub chained_of : {C : Type 0} → Job C → ℕ
chained_of {C} v =
    if v.ended then 0 else (if is_received v then length (pages_kept v) - (v.handed - v.back)
    else sum_by (λ (f : File C). length f.pages) v.files)

-- the pages in the chains of the held jobs
abbrev pub chained : {C : Type 0} → State C → ℕ
chained {C} v = sum_by (λ (job : Job C). chained_of job) v.jobs

-- the pages that are lent: one to the session of each held job that fills one
abbrev pub lent : {C : Type 0} → State C → ℕ
lent {C} v = count_by (λ (job : Job C). job.lent) v.jobs

-- the pages that are out: one at each printer that prints one
abbrev pub at_printers : {C : Type 0} → State C → ℕ
at_printers {C} v = count_by (λ (printer : Printer C). is_some printer.out) v.printers

-- the pages in chains, those that are lent, those at printers and those that are free make up the pool
abbrev pub EachPageHasAPlace : Type 0 → Type 0
EachPageHasAPlace C =
    (size : C → ℕ) (c : Config) (b : Base) (h : List (Event C)) → IsLegal size c b h
    → chained (now c b h) + lent (now c b h) + at_printers (now c b h) + free_pages (now c b h) ≡ c.pages

-- how many printers of a queue the held jobs hold
abbrev pub held_printers : {C : Type 0} → State C → ℕ → ℕ
held_printers {C} v q = sum_by (λ (job : Job C). printers_held job) (filter (λ (job : Job C). job.queue == q) v.jobs)

-- the held jobs hold no more of any kind than there is, where kind 0 are the pages and each further kind the printers
-- of a queue, and of a queue's printers no more than the queue has
pub record NoMoreThanThereIs {C : Type 0} (c : Config) (b : Base) (h : List (Event C)) : Type 0 where
  pub kinds : (kind : ℕ) → held_of kind (map (row_of c) (now c b h).jobs) ≤ amount (capacity c) kind
  pub printers : (q : ℕ) → IsQueue c q → held_printers (now c b h) q ≤ (queue_at c q).printers

abbrev pub NoKindRunsOver : Type 0 → Type 0
NoKindRunsOver C =
    (size : C → ℕ) (c : Config) (b : Base) (h : List (Event C)) → IsLegal size c b h
    → NoMoreThanThereIs c b h

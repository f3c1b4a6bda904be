-- A lent page that comes back, if there is one.
use Rattle.std.specs.Prelude.{◌≡◌, ℕ, ◌⊎◌, Bool, true, false, Option, Some, None}
use Rattle.page_pool.specs.Page.{Page}
use Rattle.held_jobs.specs.declared.phase.Phase.TheVariants.{Receiving, Ended}
use Rattle.held_jobs.specs.Jobs.{Facts}

-- how many pages these are
abbrev pub count_of : Option Page → ℕ
count_of None = 0
count_of (Some page) = 1

-- a page of this size is given exactly where one is lent
abbrev pub HasLent : Bool → ℕ → Option Page → Type 0
HasLent lent page_size None = lent ≡ false
HasLent lent page_size (Some page) = (lent ≡ true) × (page.page_size ≡ page_size)

-- what is known of a job that may be aborted with this page
abbrev pub MayAbort : Facts → ℕ → Option Page → Type 0
MayAbort g page_size ticket = ((g.phase ≡ Receiving) ⊎ ((g.phase ≡ Ended) × (g.lent ≡ true))) × HasLent g.lent page_size ticket

-- The page that a session has for jobs that come beside the spool.
use Rattle.std.specs.Prelude.{◌≡◌, ℕ, ◌==◌, Bool, true, [], Option, None, Some}
use Rattle.page_pool.specs.Page.{Page, Pages}

-- a pool, where there is one, has pages of this size
abbrev pub has_size : Option Pages → (page_size : ℕ) → Bool
has_size None page_size = true
has_size (Some pool) page_size = pool.page_size == page_size

-- an empty page of this size
abbrev pub IsEmptyPage : (page_size : ℕ) → Page → Type 0
IsEmptyPage page_size page = page ≡ record { octets = []; page_size = page_size }

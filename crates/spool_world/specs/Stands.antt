-- Where a connection stands, as a trace tells its session.
use Rattle.std.specs.Prelude.{◌≡◌, ◌⊎◌, ℕ, true, false, Option, Some, None}
use Rattle.page_pool.specs.Page.{Page}
use Rattle.receiver.specs.Reading.{Progress}
use Rattle.receiver.specs.View.{held}
use Rattle.spool_calls.specs.Tickets.{HasLent}
use Rattle.spool_trace.specs.Sessions.{Session}
use Rattle.spool_trace.specs.Hands.{has_page}
use Rattle.spool_trace.specs.Reading as reading
use Rattle.request_calls.specs.Pages.{first_page}
use Rattle.spool_world.specs.declared.connection.Connection.{Connection}

-- the page of a connection, where its reader is so far: the one that was kept, or the one in its
-- reader's hand
abbrev pub page_of : Progress → Connection → Option Page
page_of p k = first_page k.kept (held p.items p.tail)

-- the connection goes on: its reader stands where the session does, and it has a page exactly where
-- the session has one
pub record GoesOn (page_size : ℕ) (k : Connection) (s : Session) (p : Progress) : Type 0 where
  pub open' : s.over ≡ false
  pub reads : reading.Stands p k.unread.items s
  pub page : HasLent (has_page s) page_size (page_of p k)
  pub one : (k.kept ≡ None) ⊎ (held p.items p.tail ≡ None)

abbrev pub IsAt : ℕ → Connection → Session → Option Progress → Type 0
IsAt page_size k s None = s.over ≡ true
IsAt page_size k s (Some p) = GoesOn page_size k s p

-- the connection is where its session is: over, or going on
pub record Stands (page_size : ℕ) (k : Connection) (s : Session) : Type 0 where
  pub sender : k.sender ≡ s.sender
  pub job : k.job ≡ s.job
  pub at : IsAt page_size k s k.reader

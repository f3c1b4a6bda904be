-- What is seen of a world, and where a trace leaves it.
use Rattle.std.specs.Prelude.{◌≡◌, ℕ, ◌+◌, ◌-◌, ◌<◌, ◌≤◌, Option, Some, None, Result, Ok, Err}
use Rattle.std.specs.Prelude.{List, [], ◌∷◌, ◌++◌, get_or, length, set}
use Rattle.config_values.specs.Config.{Config, IsPrinter}
use Rattle.config_values.specs.Ranges.{IsConfig}
use Rattle.receiver.specs.Reading.{start}
use Rattle.spool_history.specs.Base.{first_base}
use Rattle.spool_history.specs.Events.{Sheet}
use Rattle.spool_history.specs.Next.{printer_at}
use Rattle.spool_calls.specs.declared.handed.HandedPage.{HandedPage}
use Rattle.spool_calls.specs.Looks.Detail.{Octets}
use Rattle.spool_calls.specs.Kept.{Kept, Leaves}
use Rattle.spool_trace.specs.declared.step.Step.{Step}
use Rattle.spool_trace.specs.declared.reply.Reply.{Reply}
use Rattle.spool_trace.specs.declared.reply.Reply.TheVariants as reply
use Rattle.spool_trace.specs.declared.reply.ShownPage.{ShownPage}
use Rattle.spool_trace.specs.Trace.{Entry, Trace}
use Rattle.spool_trace.specs.Sessions.{session_at, sessions}
use Rattle.spool_trace.specs.Shown.{events, spool_after}
use Rattle.spool_trace.specs.Replies.{IsReply, IsTrace}
use Rattle.spool_world.specs.declared.connection.Connection.{Connection}
use Rattle.spool_world.specs.Stands.{Stands}

-- the core, the connections in order, and the page that each printer has
pub record Worlds : Type 0 where
  pub core : Kept
  pub connections : List Connection
  pub pages : List (Option HandedPage)

-- the page that a printer has
abbrev pub page_at : Worlds → ℕ → Option HandedPage
page_at w p = get_or w.pages (p - 1) None

-- the page in the words of histories
abbrev pub sheet_of : HandedPage → Sheet (List ℕ)
sheet_of page = record {
  job = page.job;
  place = page.place;
  file = page.file;
  number = page.number;
  page = page.page.octets;
}

-- the page that a printer has is the one that is out at it
abbrev pub IsOut : ℕ → Option HandedPage → Option (Sheet (List ℕ)) → Type 0
IsOut page_size None None = Unit {0}
IsOut page_size (Some page) (Some sheet) =
    (sheet_of page ≡ sheet) × (page.page.page_size ≡ page_size)
IsOut page_size _ _ = ⊥

-- Each reply of the trace is right, and the trace leaves the world of this configuration here.
pub record LeadsIn (c : Config) (t : Trace) (w : Worlds) : Type 0 where
  pub ranges : IsConfig c
  pub right : IsTrace c t
  pub core : Leaves Octets first_base (events c t) w.core
  pub count : length w.connections ≡ length (sessions t)
  pub connections : (i : ℕ) (other : Connection) → i < length w.connections →
      Stands c.page_size (get_or w.connections i other) (session_at (sessions t) (i + 1))
  pub printers : (p : ℕ) → IsPrinter c p →
      IsOut c.page_size (page_at w p) (printer_at (spool_after c t) p).out

abbrev pub Leads : Trace → Worlds → Type 0
Leads t w = LeadsIn w.core.config t w

-- the step and the reply are one more entry
abbrev pub entry : Step → Reply → Entry
entry step reply = record { step = step; reply = reply }

-- a step is replied to rightly after every trace that leads to where the world was, which with it
-- leads to where it is
abbrev pub Steps : Worlds → Step → Reply → Worlds → Type 0
Steps old step reply new =
    (t : Trace) → Leads t old
    → IsReply old.core.config t step reply × Leads (entry step reply ∷ t) new

-- a session has this number
abbrev pub IsPlace : Worlds → ℕ → Type 0
IsPlace w session = (1 ≤ session) × (session ≤ length w.connections)

-- a connection on which nothing has arrived
pub record IsNew (sender : ℕ) (k : Connection) : Type 0 where
  pub of : k.sender ≡ sender
  pub reader : k.reader ≡ Some start
  pub job : k.job ≡ 0
  pub kept : k.kept ≡ None
  pub unread : k.unread.items ≡ []

-- there is one connection more, on which nothing has arrived
abbrev pub AddsConnection : (old : Worlds) → ℕ → (new : Worlds) → Type 0
AddsConnection old sender new =
    (k : Connection) × IsNew sender k
    × (new ≡ record old { connections = old.connections ++ k ∷ [] })

-- a page is at a printer
abbrev pub with_page : Worlds → ℕ → HandedPage → Worlds
with_page w p page = record w { pages = set w.pages (p - 1) (Some page) }

-- no page is at a printer
abbrev pub without_page : Worlds → ℕ → Worlds
without_page w p = record w { pages = set w.pages (p - 1) None }

-- the page of a printer was taken from it, or nothing has changed: there is no such printer, or it
-- has no page
abbrev pub TakesPage : (old : Worlds) → ℕ → Result HandedPage Reply → (new : Worlds) → Type 0
TakesPage old p (Ok page) new =
    IsPrinter old.core.config p × (page_at old p ≡ Some page) × (new ≡ without_page old p)
TakesPage old p (Err reply.NoSuch) new = ¬ IsPrinter old.core.config p × (new ≡ old)
TakesPage old p (Err reply.NoPage) new =
    IsPrinter old.core.config p × (page_at old p ≡ None) × (new ≡ old)
TakesPage old p (Err _) new = ⊥

-- a page as it is told
abbrev pub shown_page : HandedPage → ShownPage
shown_page page =
    record {
      job = page.job;
      place = page.place;
      file = page.file;
      number = page.number;
      octets = page.page.octets;
    }

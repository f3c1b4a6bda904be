-- Which printers are stopped, and which have to wait.
use Rattle.std.specs.Prelude.{◌≡◌, ◌<◌, ◌⊎◌, ℕ, true, List, length}
use Rattle.config_values.specs.Config.{Config, IsPrinter, IsQueue}
use Rattle.spool_history.specs.Base.{Base}
use Rattle.spool_history.specs.Events.{Event}
use Rattle.spool_history.specs.Next.{printer_at}
use Rattle.spool_calls.specs.declared.answers.Next.{Next}
use Rattle.spool_calls.specs.declared.answers.Next.TheVariants as next
use Rattle.spool_calls.specs.Looks.{Detail, What}
use Rattle.spool_calls.specs.Looks.Detail.{Outlines}
use Rattle.spool_calls.specs.Kept.{Kept}
use Rattle.spool_calls.specs.Calls.{before}
use Rattle.spool_calls.specs.Readers.{stopped_for}
use Rattle.spool_core.specs.Printers.{BeginsNext, MustWait}
use Rattle.locked_spool.specs.Held.{Held}

module _ (d : Detail) (b : Base) (h : List (Event (What d))) (k : Kept) where
  -- a printer of this queue is stopped
  abbrev pub IsStopped : ℕ → Type 0
  IsStopped q = 0 < stopped_for d b h k q

  -- a printer of some queue is stopped
  abbrev pub HasStopped : Type 0
  HasStopped = (q : ℕ) × IsQueue k.config q × IsStopped q

  -- no job is held, or a printer is stopped: nothing happens any more until somebody calls
  abbrev pub IsIdle : Type 0
  IsIdle = (length (before d b h k).jobs ≡ 0) ⊎ HasStopped

-- a printer of this configuration has to wait
abbrev pub Waits : Config → Held → (printer : ℕ) → Type 0
Waits c h p = IsPrinter c p × MustWait Outlines h.base h.events h.core p

-- a printer of this configuration is stopped
abbrev pub Stands : Config → Held → (printer : ℕ) → Type 0
Stands c h p = IsPrinter c p × ((printer_at (before Outlines h.base h.events h.core) p).stopped ≡ true)

-- a job would begin at a printer of this configuration
abbrev pub Begins : Config → Held → (printer : ℕ) → Type 0
Begins c h p = IsPrinter c p × BeginsNext Outlines h.base h.events h.core p

-- this holds where a printer got nothing because it has to wait
abbrev pub WhereNothing : Next → Type 0 → Type 0
WhereNothing next.Nothing P = P
WhereNothing next.Stopped P = P
WhereNothing _ P = Unit {0}

-- What is due for a printer.
use Rattle.std.specs.Prelude.{◌≡◌, ℕ, ◌-◌, false, List, Some, is_some, slice_get, slice_index_or}
use Rattle.page_chain.specs.declared.place.Place.{Place}
use Rattle.held_jobs.specs.Books.{job_at}
use Rattle.held_jobs.specs.Turns.{TurnAt, facts_in}
use Rattle.spool_history.specs.Base.{Base}
use Rattle.spool_history.specs.Events.{Event}
use Rattle.spool_history.specs.Next.{next_page}
use Rattle.spool_history.specs.Next as N
use Rattle.spool_calls.specs.declared.printer.Printer.{Printer}
use Rattle.spool_calls.specs.Looks.{Detail, What}
use Rattle.spool_calls.specs.Kept.{Kept}
use Rattle.spool_calls.specs.Calls.{before}
use Rattle.spool_core.specs.declared.due.Due.{Due}
use Rattle.spool_core.specs.declared.due.Due.TheVariants as due
use Rattle.spool_core.specs.Printers.{HasNext}

-- it is what is next for the printer after a history
abbrev pub IsDue : (d : Detail) → Base → List (Event (What d)) → Kept → (printer : ℕ) → Due → Type 0
IsDue d b h k p due.Closed = next_page (before d b h k) p ≡ N.Next.Over
IsDue d b h k p due.Stopped = next_page (before d b h k) p ≡ N.Next.Stops
IsDue d b h k p due.Busy = next_page (before d b h k) p ≡ N.Next.Busy
IsDue d b h k p due.Nothing = next_page (before d b h k) p ≡ N.Next.Nothing
IsDue d b h k p (due.Page i place) = HasNext d b h k p

-- a printer that is kept so waits for a page, and has its turn with this place of the job at this place of the book
pub record HasTurn (k : Kept) (at : Printer) (i : ℕ) (place : Place) : Type 0 where
  pub open' : k.closed ≡ false
  pub runs : at.stopped ≡ false
  pub idle : is_some at.out ≡ false
  pub turn : TurnAt (facts_in k.book.jobs) at.queue at.began (Some i)
  pub first : slice_get (job_at k.book i).chain.places 0 ≡ Some place

-- the printer of this number does
abbrev pub IsTurn : Kept → (printer i : ℕ) → Place → Type 0
IsTurn k p i place = (at : Printer) → at ≡ slice_index_or k.printers (p - 1) at → HasTurn k at i place

-- where a place is due it is the printer's turn
abbrev pub IsTurnOf : Kept → (printer : ℕ) → Due → Type 0
IsTurnOf k p (due.Page i place) = IsTurn k p i place
IsTurnOf k p _ = Unit {0}

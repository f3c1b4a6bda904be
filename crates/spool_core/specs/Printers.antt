-- The printers of a core.
use Rattle.std.specs.Prelude.{◌≡◌, ◌⊎◌, ℕ, List, [], Option, Some, None, map}
use Rattle.account.specs.declared.entry.Sheet.{Sheet}
use Rattle.config_values.specs.Config.{Config}
use Rattle.spool_history.specs.Base.{Base, first_base}
use Rattle.spool_history.specs.Events as E
use Rattle.spool_history.specs.Events.{Event}
use Rattle.spool_history.specs.Now.{printer_of, up_to}
use Rattle.spool_history.specs.Next.{next_page}
use Rattle.spool_history.specs.Next.Next.{Hands, Nothing, Stops}
use Rattle.spool_calls.specs.declared.printer.Printer.{Printer}
use Rattle.spool_calls.specs.declared.handed.HandedPage.{HandedPage}
use Rattle.spool_calls.specs.Looks.{Detail, What, outline_of}
use Rattle.spool_calls.specs.Looks.Detail.{Outlines}
use Rattle.spool_calls.specs.Kept.{Kept, kept_printer}
use Rattle.spool_calls.specs.Calls.{before}

-- so many printers, before anything happens
abbrev pub idle : Config → ℕ → List Printer
idle c n = map (kept_printer Outlines) (map (printer_of c first_base []) (up_to n))

-- the page is the one that is out
abbrev pub IsOutAt : Option Sheet → HandedPage → ℕ → Type 0
IsOutAt None page page_size = ⊥
IsOutAt (Some s) page page_size =
    (page.job ≡ s.job) × (page.place ≡ s.place) × (outline_of page.page.octets ≡ s.page) × (page.page.page_size ≡ page_size)

-- a page is next for a printer
abbrev pub HasNext : (d : Detail) → Base → List (Event (What d)) → Kept → (printer : ℕ) → Type 0
HasNext d b h k p = (sheet : E.Sheet (What d)) × (next_page (before d b h k) p ≡ Hands sheet)

-- the page that is next for a printer is the first of a job, which would begin there
abbrev pub BeginsNext : (d : Detail) → Base → List (Event (What d)) → Kept → (printer : ℕ) → Type 0
BeginsNext d b h k p = (sheet : E.Sheet (What d)) × (next_page (before d b h k) p ≡ Hands sheet) × (sheet.place ≡ 0)

-- nothing is next for a printer, or it is stopped
abbrev pub MustWait : (d : Detail) → Base → List (Event (What d)) → Kept → (printer : ℕ) → Type 0
MustWait d b h k p = (next_page (before d b h k) p ≡ Nothing) ⊎ (next_page (before d b h k) p ≡ Stops)

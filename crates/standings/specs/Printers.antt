-- How a printer stands.
use Rattle.std.specs.Prelude.{ℕ, ◌+◌, ◌==◌, ◌&&◌, ◌||◌, Bool, false, not, List, [], ◌∷◌, Option, Some, None, if◌then◌else◌, is_some, slice_get, string_bytes}
use Rattle.account.specs.declared.entry.Sheet.{Sheet}
use Rattle.spool_calls.specs.declared.printer.Printer.{Printer}
use Rattle.standings.specs.declared.noted.PrinterNotes.{PrinterNotes}
use Rattle.standings.specs.declared.noted.SeenTrouble.{SeenTrouble}
use Rattle.standings.specs.declared.printer.PrinterStanding.{PrinterStanding}
use Rattle.standings.specs.declared.printer.PrinterStanding.TheVariants as printer
use Rattle.standings.specs.Noted.{stop_in, unreached_in}

-- a printer is stopped by this fault, or by none that is noted: then it was put off, where it isn't reached for this cause
abbrev pub stopped_by : (stop trouble : Option SeenTrouble) → PrinterStanding
stopped_by (Some stop) trouble = printer.Stopped (Some stop.seconds)
stopped_by None (Some trouble) = printer.PutOff trouble.seconds
stopped_by None None = printer.Stopped None

-- a page is at a printer that runs: it is printed, or nothing of it goes
abbrev pub busy_standing : Sheet → Option SeenTrouble → PrinterStanding
busy_standing sheet None = printer.Printing sheet.job sheet.place
busy_standing sheet (Some trouble) = printer.Unreached sheet.job sheet.place trouble.seconds

-- a printer runs that has a page, or none
abbrev pub running_standing : Option Sheet → Bool → Option SeenTrouble → PrinterStanding
running_standing None held trouble = if held then printer.Held else printer.Idle
running_standing (Some sheet) held trouble = busy_standing sheet trouble

-- stopped and put off come before not reached, that before printing, that before held, and that before idle
abbrev pub printer_standing : Printer → Bool → Option PrinterNotes → PrinterStanding
printer_standing p held notes =
    if p.stopped then stopped_by (stop_in notes) (unreached_in notes) else running_standing p.out held (unreached_in notes)

-- what is the matter, where it is known
abbrev pub cause_in : Option SeenTrouble → List ℕ
cause_in None = []
cause_in (Some trouble) = string_bytes trouble.cause

-- what is the matter with a printer that stands so
abbrev pub cause_of : PrinterStanding → Option PrinterNotes → List ℕ
cause_of printer.Idle notes = []
cause_of printer.Held notes = []
cause_of (printer.Printing job place) notes = []
cause_of (printer.Unreached job place seconds) notes = cause_in (unreached_in notes)
cause_of (printer.PutOff seconds) notes = cause_in (unreached_in notes)
cause_of (printer.Stopped seconds) notes = cause_in (stop_in notes)

-- a printer serves this queue and isn't stopped
abbrev pub runs_for : ℕ → Printer → Bool
runs_for queue p = (p.queue == queue) && not p.stopped

-- a printer of which this is noted isn't reached, and is stopped by no fault
abbrev pub has_given_back : Option PrinterNotes → Printer → Bool
has_given_back None p = false
has_given_back (Some notes) p = (is_some notes.unreached && not (is_some notes.stop)) && p.stopped

-- so it is of the printer at a place
abbrev pub is_put_off_at : List PrinterNotes → ℕ → Printer → Bool
is_put_off_at notes at p = has_given_back (slice_get notes at) p

-- the printer at a place is stopped, and isn't tried again by itself
abbrev pub is_stopped_at : List PrinterNotes → ℕ → Printer → Bool
is_stopped_at notes at p = p.stopped && not (is_put_off_at notes at p)

-- the printer at a place runs, has a page, and nothing of that goes
abbrev pub is_halted_at : List PrinterNotes → ℕ → Printer → Bool
is_halted_at notes at p = (is_some (unreached_in (slice_get notes at)) && is_some p.out) && not p.stopped

-- the printer at a place isn't reached: nothing of its page goes, or it has given its job back
abbrev pub is_unreached_at : List PrinterNotes → ℕ → Printer → Bool
is_unreached_at notes at p = is_halted_at notes at p || is_put_off_at notes at p

-- the printer at a place runs for this queue, and is reached
abbrev pub is_reached_for : List PrinterNotes → (queue : ℕ) → ℕ → Printer → Bool
is_reached_for notes queue at p = runs_for queue p && not (is_unreached_at notes at p)

-- 1 where it is so, else 0
abbrev pub one_if : Bool → ℕ
one_if so = if so then 1 else 0

-- how many elements pass a test that looks at their places too, of which the first is this
abbrev pub count_at : {X : Type 0} → (ℕ → X → Bool) → ℕ → List X → ℕ
count_at test at [] = 0
count_at test at (x ∷ xs) = one_if (test at x) + count_at test (at + 1) xs

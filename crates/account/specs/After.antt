-- Printers, as one entry after the other is read.
use Rattle.std.specs.Prelude.{ℕ, ◌-◌, ◌==◌, Bool, true, false, List, if◌then◌else◌, map, slice_index_or, slice_set}
use Rattle.config_values.specs.Config.{Config, queue_of}
use Rattle.spool_history.specs.Base.{Base}
use Rattle.spool_history.specs.Events.{Event}
use Rattle.spool_history.specs.Events.Event.{AtPrinter, Started}
use Rattle.spool_history.specs.Said.{is_failed, is_stopped_at}
use Rattle.account.specs.declared.after.Printer.{Printer}

-- a printer as a history leaves it
abbrev pub printer_in : {C : Type 0} → Config → Base → List (Event C) → ℕ → Printer
printer_in c b h p = record { queue = queue_of c p; stopped = is_stopped_at b h (queue_of c p) p }

abbrev pub with_stop : Bool → Printer → Printer
with_stop stopped p = record p { stopped = stopped }

abbrev pub no_printer : Printer
no_printer = record { queue = 0; stopped = false }

-- the printer of this number stops; 0 is the number of none
abbrev pub stopped_at : ℕ → List Printer → List Printer
stopped_at n printers =
    if n == 0 then printers else slice_set printers (n - 1) (with_stop true (slice_index_or printers (n - 1) no_printer))

-- the printers of this queue start
abbrev pub started : ℕ → Printer → Printer
started q p = if q == p.queue then with_stop false p else p

-- what an event makes of the printers, in the order of their numbers
abbrev pub printers_after : {C : Type 0} → Event C → List Printer → List Printer
printers_after {C} (AtPrinter p sheet turn) printers = if is_failed turn then stopped_at p printers else printers
printers_after {C} (Started q) printers = map {A = Printer} {B = Printer} (started q) printers
printers_after {C} _ printers = printers

-- Where one event leads.
use Rattle.std.specs.Prelude.{ℕ, ◌+◌, ◌-◌, ◌==◌, Bool, true, false, List, [], ◌∷◌, ◌++◌, Some, None, map, filter, length, sum_by, if◌then◌else◌, slice_set}
use Rattle.std.specs.List.{list_any}
use Rattle.spool_history.specs.Events.{Act, Sheet, Turn, Event}
use Rattle.spool_history.specs.Events.Act.{Granted, Began, Put, FileEnded, Controlled, Aborted}
use Rattle.spool_history.specs.Events.Progress.{Done}
use Rattle.spool_history.specs.Events.Turn.{Handed, Printed, Failed}
use Rattle.spool_history.specs.Events.Event.{Opened, OfJob, AtPrinter, Removed, Started, Closed}
use Rattle.config_values.specs.Config.{reserve_of}
use Rattle.spool_history.specs.Acts.{at_last, new_file}
use Rattle.spool_history.specs.Now.{Job, Printer, State, is_held}
use Rattle.spool_history.specs.Next.{printer_at}

-- what an act makes of its job
abbrev pub acted : {C : Type 0} → Act C → Job C → Job C
acted Granted v = record v { granted = v.granted + 1; lent = true }
acted (Began name count) v = record v { files = v.files ++ new_file name count ∷ [] }
acted (Put file number page) v = record v { lent = false; files = at_last (λ f. record f { pages = f.pages ++ page ∷ [] }) v.files }
acted (FileEnded file whole) v = record v { files = at_last (λ f. record f { ended = true }) v.files }
acted (Controlled control whole) v = record v { control = Some control }
acted Aborted v = record v { lent = false; ended = true }

-- what a turn of a printer makes of the job whose page it is
abbrev pub turned : {C : Type 0} → Turn → Job C → Job C
turned Handed v = record v { handed = v.handed + 1 }
turned (Printed Done) v = record v { back = v.back + 1; ended = true }
turned (Printed _) v = record v { back = v.back + 1 }
turned Failed v = record v { back = v.back + 1; ended = true }

-- what an event makes of a job
abbrev pub change : {C : Type 0} → Event C → Job C → Job C
change (Opened k sender queue) v = v
change (OfJob k act) v = if k == v.number then acted act v else v
change (AtPrinter p sheet turn) v = if sheet.job == v.number then turned turn v else v
change (Removed queue jobs) v = if list_any (λ k. k == v.number) jobs then record v { ended = true } else v
change (Started queue) v = v
change Closed v = record v { ended = true }

abbrev pub new_job : {C : Type 0} → (number sender queue : ℕ) → Job C
new_job j s q =
    record { number = j; sender = s; queue = q; granted = 0; lent = false; files = []; control = None; handed = 0; back = 0; ended = false }

abbrev pub accepted_by : {C : Type 0} → Event C → List (Job C)
accepted_by (Opened j sender queue) = new_job j sender queue ∷ []
accepted_by _ = []

-- what a turn makes of its printer
abbrev pub printer_turned : {C : Type 0} → Sheet C → Turn → Printer C → Printer C
printer_turned sheet Handed p = record p { out = Some sheet; began = Some sheet.job }
printer_turned sheet (Printed progress) p = record p { out = None }
printer_turned sheet Failed p = record p { out = None; stopped = true }

abbrev pub printers_after : {C : Type 0} → Event C → State C → List (Printer C)
printers_after {C} (AtPrinter p sheet turn) v = slice_set v.printers (p - 1) (printer_turned sheet turn (printer_at v p))
printers_after {C} (Started q) v = map {A = Printer C} {B = Printer C} (λ p. if p.queue == q then record p { stopped = false } else p) v.printers
printers_after {C} _ v = v.printers

abbrev pub closed_after : {C : Type 0} → Event C → Bool → Bool
closed_after Closed b = true
closed_after _ b = b

-- where an event leaves a spool
abbrev pub after : {C : Type 0} → Event C → State C → State C
after e v = record {
  config = v.config;
  jobs = filter is_held (map (change e) v.jobs) ++ accepted_by e;
  accepted = v.accepted + length (accepted_by e);
  reserved = v.reserved + sum_by (λ j. reserve_of v.config j.queue) (accepted_by e);
  printers = printers_after e v;
  closed = closed_after e v.closed;
}

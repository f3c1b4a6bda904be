-- What is told of a queue: its printers, and the jobs that a removal would take.
use Rattle.std.specs.Prelude.{◌≡◌, ℕ, ◌==◌, List, Result, Ok, Err, Vec, filter}
use Rattle.std.specs.Global.{Global}
use Rattle.lpd_values.specs.declared.refusal.Refusal.{Refusal}
use Rattle.spool_history.specs.Base.{Base}
use Rattle.spool_history.specs.Events.{Event}
use Rattle.spool_history.specs.Refusals.{OrMemory, RefusesQueue, TakesJobs}
use Rattle.spool_calls.specs.declared.printer.Printer.{Printer}
use Rattle.spool_calls.specs.Looks.{Detail, What}
use Rattle.spool_calls.specs.Kept.{Kept}
use Rattle.spool_calls.specs.Calls.{before, queue, removed_by}

-- the printers that serve a queue
abbrev pub serving : ℕ → List Printer → List Printer
serving q printers = filter (λ (p : Printer). p.queue == q) printers

-- those of them that are stopped
abbrev pub stopped_in : ℕ → List Printer → List Printer
stopped_in q printers = filter (λ (p : Printer). p.stopped) (serving q printers)

module _ (d : Detail) (b : Base) (h : List (Event (What d))) (old : Kept) where
  -- the numbers of the jobs that a removal would take
  abbrev pub Chooses : List ℕ → List ℕ → List (List ℕ) → Result (Vec ℕ Global) Refusal → Type 0
  Chooses name agent list (Ok numbers) =
      TakesJobs (before d b h old) (queue d b h old name) × (numbers.items ≡ removed_by d b h old (queue d b h old name) agent list)
  Chooses name agent list (Err n) =
      OrMemory (TakesJobs (before d b h old) (queue d b h old name)) (RefusesQueue (before d b h old) (queue d b h old name)) n

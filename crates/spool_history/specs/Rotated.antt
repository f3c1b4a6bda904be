-- The base after a history that leaves no job held.
use Rattle.std.specs.Prelude.{ℕ, map, count_by}
use Rattle.spool_history.specs.Base.{Base}
use Rattle.spool_history.specs.Now.{Printer, State}

-- how many printers are stopped
abbrev pub stopped_in : {C : Type 0} → State C → ℕ
stopped_in {C} v = count_by (λ (printer : Printer C). printer.stopped) v.printers

-- the number and the stopped printers as they are, closed as it is, and counted one entry for each stopped printer,
-- because a start may still come for it
abbrev pub rotated : {C : Type 0} → State C → Base
rotated {C} v = record {
  accepted = v.accepted;
  reserved = stopped_in v;
  closed = v.closed;
  stopped = map (λ (printer : Printer C). printer.stopped) v.printers;
}

-- How many entries a history may have.
use Rattle.std.specs.Prelude.{ℕ, ◌+◌, ◌≤◌, List, count_by, length}
use Rattle.spool_history.specs.Events.{Event}
use Rattle.config_values.specs.Config.{Config, printer_count}
use Rattle.spool_history.specs.Base.{Base, was_stopped}
use Rattle.spool_history.specs.Now.{now, up_to}
use Rattle.spool_history.specs.Legal.{IsLegal}

-- a base counts at least one entry for each stopped printer, because a start may still come for it
abbrev pub CountsStops : Config → Base → Type 0
CountsStops c b = count_by (was_stopped b) (up_to (printer_count c)) ≤ b.reserved

-- the entries since the base never pass the base's counted reserve, the reserves of the jobs accepted since, and one
abbrev pub ReserveIsEnough : Type 0 → Type 0
ReserveIsEnough C =
    (size : C → ℕ) (c : Config) (b : Base) (h : List (Event C)) → CountsStops c b
    → IsLegal size c b h → length h ≤ (now c b h).reserved + 1

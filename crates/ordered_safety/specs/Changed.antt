-- Rows one of which may be changed.
use Rattle.std.specs.Prelude.{Option, Some, None, List, slice_set}
use Rattle.claims.specs.declared.row.Row.{Row}
use Rattle.ordered_safety.specs.declared.rows.Change.{Change}

-- the rows, with the changed one at its place
abbrev pub changed : List Row → Option Change → List Row
changed rows None = rows
changed rows (Some c) = slice_set rows c.place c.row.now

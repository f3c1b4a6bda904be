-- What lines count for.
use Rattle.std.specs.Prelude.{ℕ, Bool, true, false, length}
use Rattle.spool_history.specs.Events.Act.{Aborted}
use Rattle.spool_history.specs.Events.Progress.{Done}
use Rattle.spool_history.specs.Events.Turn.{Printed, Failed}
use Rattle.spool_history.specs.Events.Event.{Opened, OfJob, AtPrinter, Removed}
use Rattle.segment_text.specs.Items.{Item}
use Rattle.segment_text.specs.Items.Item.{OfEvent, OfLast}

-- the last line of a segment
abbrev pub is_last : Item → Bool
is_last (OfLast l) = true
is_last _ = false

-- an entry
abbrev pub is_entry : Item → Bool
is_entry (OfEvent e) = true
is_entry _ = false

-- a job was accepted
abbrev pub is_opening : Item → Bool
is_opening (OfEvent (Opened j sender queue)) = true
is_opening _ = false

-- the last place of a job was printed
abbrev pub is_done : Item → Bool
is_done (OfEvent (AtPrinter p sheet (Printed Done))) = true
is_done _ = false

-- so many jobs were removed
abbrev pub removed_in : Item → ℕ
removed_in (OfEvent (Removed queue jobs)) = length jobs
removed_in _ = 0

-- a page failed
abbrev pub is_failed : Item → Bool
is_failed (OfEvent (AtPrinter p sheet Failed)) = true
is_failed _ = false

-- a job was aborted
abbrev pub is_aborted : Item → Bool
is_aborted (OfEvent (OfJob j Aborted)) = true
is_aborted _ = false

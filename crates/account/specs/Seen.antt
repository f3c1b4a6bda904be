-- What entries say, in the words of the definitions.
use Rattle.std.specs.Prelude.{ℕ, List, map}
use Rattle.control_file.specs.View.{contents}
use Rattle.spool_history.specs.Base as B
use Rattle.spool_history.specs.Events as E
use Rattle.account.specs.declared.base.Base.{Base}
use Rattle.account.specs.declared.entry.Outline.{Outline}
use Rattle.account.specs.declared.entry.Act.{Act}
use Rattle.account.specs.declared.entry.Act.TheVariants as act
use Rattle.account.specs.declared.entry.Sheet.{Sheet}
use Rattle.account.specs.declared.entry.Progress.{Progress}
use Rattle.account.specs.declared.entry.Progress.TheVariants as progress
use Rattle.account.specs.declared.entry.Turn.{Turn}
use Rattle.account.specs.declared.entry.Turn.TheVariants as turn
use Rattle.account.specs.declared.entry.Entry.{Entry}
use Rattle.account.specs.declared.entry.Entry.TheVariants as entry

abbrev pub act_seen : Act → E.Act Outline
act_seen act.Granted = E.Act.Granted
act_seen (act.Began name count) = E.Act.Began name count
act_seen (act.Put file number page) = E.Act.Put file number page
act_seen (act.FileEnded file whole) = E.Act.FileEnded file whole
act_seen (act.Controlled control whole) = E.Act.Controlled (contents control) whole
act_seen act.Aborted = E.Act.Aborted

abbrev pub sheet_seen : Sheet → E.Sheet Outline
sheet_seen s = record { job = s.job; place = s.place; file = s.file; number = s.number; page = s.page }

abbrev pub progress_seen : Progress → E.Progress
progress_seen progress.Going = E.Progress.Going
progress_seen progress.Done = E.Progress.Done
progress_seen progress.Ended = E.Progress.Ended

abbrev pub turn_seen : Turn → E.Turn
turn_seen turn.Handed = E.Turn.Handed
turn_seen (turn.Printed p) = E.Turn.Printed (progress_seen p)
turn_seen turn.Failed = E.Turn.Failed

-- the event that an entry tells of
abbrev pub event_seen : Entry → E.Event Outline
event_seen (entry.Opened job sender queue) = E.Event.Opened job sender queue
event_seen (entry.OfJob number did) = E.Event.OfJob number (act_seen did)
event_seen (entry.AtPrinter printer sheet became) = E.Event.AtPrinter printer (sheet_seen sheet) (turn_seen became)
event_seen (entry.Removed queue jobs) = E.Event.Removed queue jobs.items
event_seen (entry.Started queue) = E.Event.Started queue
event_seen entry.Closed = E.Event.Closed

-- the history that a list of entries tells, the newest first
abbrev pub history : List Entry → List (E.Event Outline)
history entries = map event_seen entries

abbrev pub base_seen : Base → B.Base
base_seen b = record { accepted = b.accepted; reserved = b.reserved; closed = b.closed; stopped = b.stopped.items }

-- the octets of a page
abbrev pub octets : Outline → ℕ
octets page = page.length

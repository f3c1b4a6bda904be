-- What lines say was sent and printed, in octets.
use Rattle.std.specs.Prelude.{ℕ}
use Rattle.spool_history.specs.Events.{Sheet, Turn, Event}
use Rattle.spool_history.specs.Events.Act.{Put}
use Rattle.spool_history.specs.Events.Turn.{Printed}
use Rattle.spool_history.specs.Events.Event.{OfJob, AtPrinter}
use Rattle.account.specs.declared.entry.Outline.{Outline}
use Rattle.account.specs.Seen.{octets}
use Rattle.segment_text.specs.Items.{Item}
use Rattle.segment_text.specs.Items.Item.{OfEvent}

-- a page was put into a file
abbrev pub sent_by : Event Outline → ℕ
sent_by (OfJob j (Put file number page)) = octets page
sent_by _ = 0

-- a page was printed
abbrev pub printed_at : Sheet Outline → Turn → ℕ
printed_at sheet (Printed progress) = octets sheet.page
printed_at sheet _ = 0

abbrev pub printed_by : Event Outline → ℕ
printed_by (AtPrinter p sheet turn) = printed_at sheet turn
printed_by _ = 0

abbrev pub sent_in : Item → ℕ
sent_in (OfEvent e) = sent_by e
sent_in _ = 0

abbrev pub printed_in : Item → ℕ
printed_in (OfEvent e) = printed_by e
printed_in _ = 0

-- What the reader's values say, in the words of the definitions.
use Rattle.std.specs.Prelude.{Option, Some, None, map}
use Rattle.control_file.specs.declared.control.Control.{Control}
use Rattle.lpd_values.specs.Contents.{Contents}
use Rattle.control_file.specs.View.{contents}
use Rattle.config_values.specs.Config as S
use Rattle.spool_history.specs.Events as E
use Rattle.spool_history.specs.Acts as A
use Rattle.spool_history.specs.Said as D
use Rattle.spool_history.specs.Now as N
use Rattle.spool_history.specs.Next as X
use Rattle.account.specs.declared.entry.Outline.{Outline}
use Rattle.account.specs.declared.entry.Sheet.{Sheet}
use Rattle.account.specs.Seen.{sheet_seen}
use Rattle.history_reader.specs.declared.state.Opening.{Opening}
use Rattle.history_reader.specs.declared.state.File.{File}
use Rattle.history_reader.specs.declared.state.Page.{Page}
use Rattle.history_reader.specs.declared.state.Job.{Job}
use Rattle.history_reader.specs.declared.state.Printer.{Printer}
use Rattle.history_reader.specs.declared.state.State.{State}
use Rattle.history_reader.specs.declared.state.Next.{Next}
use Rattle.history_reader.specs.declared.state.Next.TheVariants as next

abbrev pub opening_seen : Opening → D.Opening
opening_seen o = record { job = o.job; sender = o.sender; queue = o.queue }

abbrev pub file_seen : File → A.File Outline
file_seen f = record { name = f.name; count = f.count; pages = f.pages.items; ended = f.ended }

abbrev pub page_seen : Page → A.Page Outline
page_seen p = record { file = p.file; number = p.number; page = p.page }

abbrev pub control_seen : Option Control → Option Contents
control_seen None = None
control_seen (Some control) = Some (contents control)

abbrev pub job_seen : Job → N.Job Outline
job_seen v = record {
  number = v.number;
  sender = v.sender;
  queue = v.queue;
  granted = v.granted;
  lent = v.lent;
  files = map file_seen v.files.items;
  control = control_seen v.control;
  handed = v.handed;
  back = v.back;
  ended = v.ended;
}

abbrev pub out_seen : Option Sheet → Option (E.Sheet Outline)
out_seen None = None
out_seen (Some sheet) = Some (sheet_seen sheet)

abbrev pub printer_seen : Printer → N.Printer Outline
printer_seen p = record { queue = p.queue; out = out_seen p.out; began = p.began; stopped = p.stopped }

abbrev pub state_seen : S.Config → State → N.State Outline
state_seen c v = record {
  config = c;
  jobs = map job_seen v.jobs.items;
  accepted = v.accepted;
  reserved = v.reserved;
  printers = map printer_seen v.printers.items;
  closed = v.closed;
}

abbrev pub next_seen : Next → X.Next Outline
next_seen (next.Hands sheet) = X.Next.Hands (sheet_seen sheet)
next_seen next.Nothing = X.Next.Nothing
next_seen next.Stops = X.Next.Stops
next_seen next.Busy = X.Next.Busy
next_seen next.Over = X.Next.Over

use Rattle.std.proofs.Common.{◌≡◌, ◌+◌, true}
use Rattle.printer_worker.specs.Work.{Rises, with_pages}
use Rattle.printer_worker.specs.declared.worker.Ending.TheVariants.{Closed}
use Rattle.printer_worker.proofs.worker.work.Given as goal

-- what was done so far
abbrev pub invariant-pages : goal.invariant-pages
invariant-pages g l = record {
  printer : l.seat.printer ≡ l.fn.seat.printer;
  sums : l.seat.sums ≡ with_pages (l.written + l.faults) l.written l.faults l.fn.seat.sums;
  out : l.seat.is_out ≡ true → l.fn.seat.is_out ≡ true;
  written : Rises (g.S.PrintSink.oks l.fn.sink) (g.S.PrintSink.oks l.sink) l.written;
  faults : Rises (g.S.PrintSink.errs l.fn.sink) (g.S.PrintSink.errs l.sink) l.faults;
  ending : l.ending ≡ Closed;
}

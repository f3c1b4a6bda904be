use Rattle.std.proofs.Common.{◌≡◌, ◌+◌, ◌≤◌, length, All}
use Rattle.std.specs.Prelude.{vec_capacity}
use Rattle.spool_ledgers.specs.Sums.{no_sums}
use Rattle.shared_spool.specs.Seats.{IsRowOfDesks}
use Rattle.shared_spool.proofs.spool.SharedSpool.new.Given as goal

abbrev pub invariant-sessions : goal.invariant-sessions
invariant-sessions g l = record {
  parts : l.all.parts + l.i ≡ g.E.Ledger.parts;
  fresh : l.all ≡ no_sums l.all.parts;
  seats : length l.session_seats.items ≡ l.i;
  room : l.sessions ≤ vec_capacity l.session_seats;
  none : All (λ s. s ≡ no_sums 1) l.session_seats.items;
}

abbrev pub invariant-printers : goal.invariant-printers
invariant-printers g l = record {
  parts : l.all.parts + l.i ≡ l.initial.all.parts;
  fresh : l.all ≡ no_sums l.all.parts;
  seats : length l.printer_seats.items ≡ l.i;
  room : l.printers ≤ vec_capacity l.printer_seats;
  row : IsRowOfDesks l.printer_seats.items;
}

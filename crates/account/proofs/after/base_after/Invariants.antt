use Rattle.std.proofs.Common.{◌≡◌, ◌+◌, length, map}
use Rattle.config_values.specs.Config.{printer_count}
use Rattle.spool_history.specs.Now.{up_to}
use Rattle.spool_history.specs.Said.{is_closed, openings}
use Rattle.account.specs.After.{printer_in}
use Rattle.account.specs.Seen.{base_seen}
use Rattle.account.proofs.Histories.{told}
use Rattle.account.proofs.after.base_after.Given as goal

abbrev pub invariant-loop-entry : goal.invariant-loop-entry
invariant-loop-entry l = record {
  accepted : l.reading.accepted ≡ l.base.accepted + length (openings (told l.entries l.entry-index));
  closed : l.reading.closed ≡ is_closed (base_seen l.base) (told l.entries l.entry-index);
  printers : l.reading.printers.items ≡ map (printer_in l.config (base_seen l.base) (told l.entries l.entry-index)) (up_to (printer_count l.config));
}

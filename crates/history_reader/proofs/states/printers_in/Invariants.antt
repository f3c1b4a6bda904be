use Rattle.std.proofs.Common.{◌≡◌, map}
use Rattle.spool_history.specs.Now as N
use Rattle.account.specs.Seen.{base_seen, history}
use Rattle.history_reader.specs.Seen.{printer_seen}
use Rattle.history_reader.proofs.states.printers_in.Given as goal

abbrev pub invariant-loop-before : goal.invariant-loop-before
invariant-loop-before l =
    map printer_seen l.printers.items ≡ map (N.printer_of l.config (base_seen l.base) (history l.entries)) (N.up_to l.before)

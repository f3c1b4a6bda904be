use Rattle.std.proofs.Common.{◌≡◌, [], map}
use Rattle.spool_history.specs.Now.{up_to}
use Rattle.account.specs.declared.entry.Outline.{Outline}
use Rattle.account.specs.After.{printer_in}
use Rattle.account.specs.Seen.{base_seen}
use Rattle.account.proofs.after.printers_of.Given as goal

abbrev pub invariant-loop-before : goal.invariant-loop-before
invariant-loop-before l = l.printers.items ≡ map (printer_in {C = Outline} l.config (base_seen l.base) []) (up_to l.before)

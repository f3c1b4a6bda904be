use Rattle.std.proofs.Common.{◌≡◌, ◌≤◌, ℕ}
use Rattle.printer_names.specs.Names.{IsNthOf, served_by}
use Rattle.printer_names.proofs.resolving.nth_printer.Given as goal

abbrev pub invariant-loop-before : goal.invariant-loop-before
invariant-loop-before l = record {
  seen : l.seen ≡ served_by l.config l.queue l.before;
  few : l.seen ≤ l.before;
  none : (printer : ℕ) → printer ≤ l.before → IsNthOf l.config l.queue l.nth printer → ⊥;
}

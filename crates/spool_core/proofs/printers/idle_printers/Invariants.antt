use Rattle.std.proofs.Common.{◌≡◌}
use Rattle.spool_core.specs.Printers.{idle}
use Rattle.spool_core.proofs.printers.idle_printers.Given as goal

abbrev pub invariant-loop-before : goal.invariant-loop-before
invariant-loop-before l = l.printers.items ≡ idle l.config l.before

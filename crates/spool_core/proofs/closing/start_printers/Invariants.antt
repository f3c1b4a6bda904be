use Rattle.spool_calls.specs.Printers.{started}
use Rattle.step_lemmas.proofs.Cores.Starting.{IsMapped}
use Rattle.spool_core.proofs.closing.start_printers.Given as goal

abbrev pub invariant-loop-printer : goal.invariant-loop-printer
invariant-loop-printer l = IsMapped (started l.queue) l.fn.printers l.printers l.printer-index

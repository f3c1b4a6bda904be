use Rattle.spool_calls.specs.Printers.{with_none}
use Rattle.step_lemmas.proofs.Cores.Starting.{IsMapped}
use Rattle.spool_core.proofs.closing.forget_jobs.Given as goal

abbrev pub invariant-loop-printer : goal.invariant-loop-printer
invariant-loop-printer l = IsMapped with_none l.fn.printers l.printers l.printer-index

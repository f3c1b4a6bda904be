use Rattle.account.specs.After.{started}
use Rattle.account.proofs.Mapped.{IsMapped}
use Rattle.account.proofs.after.start.Given as goal

abbrev pub invariant-loop-printer : goal.invariant-loop-printer
invariant-loop-printer l = IsMapped (started l.queue) l.fn.printers l.printers l.printer-index

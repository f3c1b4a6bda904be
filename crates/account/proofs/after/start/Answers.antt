use Rattle.account.proofs.Printers.{started_elsewhere, started_here}
use Rattle.account.proofs.after.start.Goals as goal
use Rattle.account.proofs.after.start.Goals.{then-queue-printer, else-queue-printer}

pub loop-printer-preserved : goal.loop-printer-preserved
loop-printer-preserved c =
    elim c.if-queue-printer.branch [
      | then-queue-printer w ↦
          started_here c.args.queue c.args.printers.now c.loop-printer.printers c.if-queue-printer.printers c.loop-printer.printer-index
          c.loop-printer.invariant c.loop-printer-test.true w.if-queue-printer.true w.printers-is
      | else-queue-printer w ↦
          started_elsewhere c.args.queue c.args.printers.now c.loop-printer.printers c.if-queue-printer.printers c.loop-printer.printer-index
          c.loop-printer.invariant c.loop-printer-test.true w.if-queue-printer.false w.printers-is
    ]

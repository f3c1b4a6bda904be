use Rattle.step_lemmas.proofs.Cores.Starting.{started_less, started_more}
use Rattle.spool_core.proofs.closing.start_printers.Goals as goal
use Rattle.spool_core.proofs.closing.start_printers.Goals.{then-printer-queue, else-printer-queue}

pub loop-printer-preserved : goal.loop-printer-preserved
loop-printer-preserved c =
    elim c.if-printer-queue.branch [
      | then-printer-queue w ↦
          started_more c.args.queue c.args.printers.now c.loop-printer.printers c.if-printer-queue.printers c.loop-printer.printer-index c.loop-printer.invariant c.loop-printer-test.true w.if-printer-queue.true w.printers-is
      | else-printer-queue w ↦
          started_less c.args.queue c.args.printers.now c.loop-printer.printers c.if-printer-queue.printers c.loop-printer.printer-index c.loop-printer.invariant c.loop-printer-test.true w.if-printer-queue.false w.printers-is
    ]

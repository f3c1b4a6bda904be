use Rattle.std.proofs.Common.{refl}
use Rattle.spool_calls.specs.Printers.{no_kept, with_none}
use Rattle.step_lemmas.proofs.Cores.Starting.{mapped_more}
use Rattle.spool_core.proofs.closing.forget_jobs.Goals as goal

pub loop-printer-preserved : goal.loop-printer-preserved
loop-printer-preserved c =
    mapped_more with_none c.args.printers.now c.loop-printer.printers _ c.loop-printer.printer-index no_kept c.loop-printer.invariant c.loop-printer-test.true refl

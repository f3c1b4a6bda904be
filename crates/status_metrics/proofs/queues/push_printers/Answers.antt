use Rattle.std.proofs.Common.{string_bytes}
use Rattle.status_lines.proofs.PlaceLemmas.{step_at}
use Rattle.status_metrics.specs.Metrics.{of_printer}
use Rattle.status_metrics.proofs.queues.push_printers.Goals as goal

pub loop-i-preserved : goal.loop-i-preserved
loop-i-preserved c =
    step_at (of_printer c.args.scene.now c.args.what) c.deref-printer-items.result.now c.loop-i.i _
    (string_bytes c.push_family.new.text) (string_bytes c.loop-i.text) (string_bytes c.push_printer.new.text)
    c.loop-i-test.true c.loop-i.invariant c.in_ok-push_printer.ensures

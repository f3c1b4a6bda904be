use Rattle.std.proofs.Common.{string_bytes}
use Rattle.status_lines.specs.Status.{printer_text}
use Rattle.status_lines.proofs.PlaceLemmas.{step_at}
use Rattle.status_lines.proofs.status.push_printers.Goals as goal

pub loop-i-preserved : goal.loop-i-preserved
loop-i-preserved c =
    step_at (printer_text c.args.queue.0 c.args.queue.1.now c.args.noted.now) c.args.printers.now c.loop-i.i _
    (string_bytes c.args.text.now) (string_bytes c.loop-i.text) (string_bytes c.push_served.new.text)
    c.loop-i-test.true c.loop-i.invariant c.in_ok-push_served.ensures

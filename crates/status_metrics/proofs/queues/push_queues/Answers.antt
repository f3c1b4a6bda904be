use Rattle.std.proofs.Common.{string_bytes}
use Rattle.status_lines.proofs.PlaceLemmas.{step}
use Rattle.status_metrics.specs.Metrics.{of_queue}
use Rattle.status_metrics.proofs.queues.push_queues.Goals as goal

pub loop-i-preserved : goal.loop-i-preserved
loop-i-preserved c =
    step (of_queue c.args.scene.now c.args.what) c.queues-queue-items.result.now c.loop-i.i c.queue-item.result
    (string_bytes c.push_family.new.text) (string_bytes c.loop-i.text) (string_bytes c.push_queue.new.text)
    c.loop-i-test.true c.queue-item.is c.loop-i.invariant c.in_ok-push_queue.ensures

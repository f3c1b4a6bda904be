use Rattle.std.proofs.Common.{string_bytes}
use Rattle.status_lines.specs.Status.{queue_text}
use Rattle.status_lines.proofs.NameLemmas.{name_at}
use Rattle.status_lines.proofs.PlaceLemmas.{step}
use Rattle.status_lines.proofs.status.push_queues.Goals as goal

pub push_queue-requires-clause-name : goal.push_queue-requires-clause-name
push_queue-requires-clause-name c =
    name_at c.args.config.now c.queues-queue-items.ensures.ranges c.queues-queue-items.result.now c.queues-queue-items.ensures.value c.loop-i.i c.queue-item.result
    c.loop-i-test.true c.queue-item.is

pub loop-i-preserved : goal.loop-i-preserved
loop-i-preserved c =
    step (queue_text c.args.printers.now c.args.noted.now) c.queues-queue-items.result.now c.loop-i.i c.queue-item.result
    (string_bytes c.args.text.now) (string_bytes c.loop-i.text) (string_bytes c.push_queue.new.text)
    c.loop-i-test.true c.queue-item.is c.loop-i.invariant c.in_ok-push_queue.ensures

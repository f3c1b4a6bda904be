use Rattle.std.proofs.Common.{string_bytes}
use Rattle.status_lines.specs.Status.{parked_text}
use Rattle.status_lines.proofs.NameLemmas.{name_at}
use Rattle.status_lines.proofs.PlaceLemmas.{step}
use Rattle.status_lines.proofs.status.push_parked.Goals as goal

pub push_parked_of-requires : goal.push_parked_of-requires
push_parked_of-requires c = record {
  name =
      name_at c.args.config.now c.queues-queue-items.ensures.ranges c.queues-queue-items.result.now c.queues-queue-items.ensures.value c.loop-i.i c.queue-item.result
      c.loop-i-test.true c.queue-item.is;
}

pub loop-i-preserved : goal.loop-i-preserved
loop-i-preserved c =
    step (parked_text c.args.parked.now) c.queues-queue-items.result.now c.loop-i.i c.queue-item.result
    (string_bytes c.args.text.now) (string_bytes c.loop-i.text) (string_bytes c.push_parked_of.new.text)
    c.loop-i-test.true c.queue-item.is c.loop-i.invariant c.in_ok-push_parked_of.ensures

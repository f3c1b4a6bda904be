use Rattle.status_lines.proofs.NameLemmas.{found_is_text}
use Rattle.status_lines.proofs.pieces.queue_name.Goals as goal

pub name_text-requires : goal.name_text-requires
name_text-requires c =
    found_is_text c.args.config.now c.queues.ensures.ranges c.queues.result.now c.queues.ensures.value _ c.in-Some-get.found.now _
    c.in-Some-get.ensures.lookup.0 c.in-Some-get.ensures.lookup.1 c.name.ensures

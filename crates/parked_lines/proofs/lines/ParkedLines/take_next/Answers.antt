use Rattle.parked_lines.proofs.LinesLemmas.{fed_moves, fed_next}
use Rattle.parked_lines.proofs.lines.ParkedLines.take_next.Goals as goal

pub returns-clause-fed : goal.returns-clause-fed
returns-clause-fed c =
    fed_moves c.args.self.now c.replace.new.self c.args.free.now c.in_ok-queue.queue c.in_ok-queue.job c.in_state.result c.replace.result c.next_from.ensures.once c.in_ok-queue.ensures.next c.in_state.ensures c.replace.ensures.answer c.replace.ensures.replaced

pub returns-clause-order : goal.returns-clause-order
returns-clause-order c =
    fed_next c.args.self.now c.args.free.now c.in_ok-queue.queue c.in_ok-queue.job c.in_ok-queue.ensures.next

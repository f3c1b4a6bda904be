use Rattle.spool_core.proofs.Halves.{starts}
use Rattle.spool_core.proofs.core_state.Core.start.Goals as goal

pub returns-clause-answer : goal.returns-clause-answer
returns-clause-answer c d b h l =
    starts d b h c.args.self.now c.start_printers.new.self c.args.queue.now c.in_ok-number.number (c.in_ok-number.ensures.answer d b h l) (c.start_printers.ensures.answer d b h l)

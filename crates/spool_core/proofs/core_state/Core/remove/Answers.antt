use Rattle.std.proofs.Common.{ℕ, List, subst}
use Rattle.spool_core.specs.Halves.{RemovesJobs}
use Rattle.spool_core.proofs.Halves.{removes}
use Rattle.spool_core.proofs.core_state.Core.remove.Goals as goal

pub returns-clause-answer : goal.returns-clause-answer
returns-clause-answer c d b h l =
    let r = c.in_ok-removal.removal in
    let new = c.remove_chosen.new.self in
    removes d b h c.args.self.now new c.args.queue.now c.args.agent.now c.args.list.now r (c.in_ok-removal.ensures.answer d b h l)
    (subst (λ (numbers : List ℕ). RemovesJobs d b h c.args.self.now r.queue numbers new) c.as_slice.ensures.value (c.remove_chosen.ensures.answer d b h l))

use Rattle.std.proofs.Common.{refl}
use Rattle.spool_core.proofs.core_state.Core.has_next.Goals as goal

pub returns-in-Page-clause-next : goal.returns-in-Page-clause-next
returns-in-Page-clause-next c d b h l = (λ yes. c.in-Page.ensures.due d b h l, λ has. refl)

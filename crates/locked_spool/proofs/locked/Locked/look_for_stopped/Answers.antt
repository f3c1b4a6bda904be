use Rattle.std.proofs.Common.{ap}
use Rattle.locked_spool.specs.Held.{Held}
use Rattle.locked_spool.proofs.Marked.{marked_anew}
use Rattle.locked_spool.proofs.locked.Locked.look_for_stopped.Goals as goal

pub invariant_of-self : goal.invariant_of-self
invariant_of-self g c = marked_anew c.finds_stopped-self-inside.result c.self.invariant (ap (λ (z : Held). z.core) c.self.view_is) c.finds_stopped-self-inside.ensures

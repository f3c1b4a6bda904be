use Rattle.std.proofs.Common.{◌≡◌, false, true, sym, ◌∙◌, ap}
use Rattle.locked_spool.specs.Held.{Held}
use Rattle.locked_spool.proofs.Marked.{none_stopped}
use Rattle.locked_spool.proofs.locked.Locked.has_stopped.Goals as goal

pub returns-else-self : goal.returns-else-self
returns-else-self g c d b h l = (
  λ t. absurd (let e : false ≡ true = sym c.if-self.false ∙ t in cc),
  λ has. absurd (none_stopped c.self.invariant c.if-self.false (ap (λ (z : Held). z.core) c.self.view_is) d b h l has),
)

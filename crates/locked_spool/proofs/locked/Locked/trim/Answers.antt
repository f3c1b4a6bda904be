use Rattle.std.proofs.Common.{sym, subst}
use Rattle.locked_spool.specs.Held.{Held}
use Rattle.locked_spool.specs.Rotation.{IsSegmentOf}
use Rattle.locked_spool.proofs.Segments.{headline, legal}
use Rattle.locked_spool.proofs.locked.Locked.trim.Goals as goal

pub returns-clause-legal : goal.returns-clause-legal
returns-clause-legal g c = legal c.self.invariant c.hand_out.result (subst (λ (z : Held). IsSegmentOf z c.hand_out.result) (sym c.self.view_is) c.hand_out.ensures.segment)

pub returns-clause-headline : goal.returns-clause-headline
returns-clause-headline g c = headline c.self.invariant c.hand_out.result (subst (λ (z : Held). IsSegmentOf z c.hand_out.result) (sym c.self.view_is) c.hand_out.ensures.segment)

use Rattle.std.proofs.Common.{subst}
use Rattle.spool_calls.specs.Calls.{IsRight}
use Rattle.locked_spool.specs.Waiting.{IsIdle}
use Rattle.shared_spool.specs.declared.line.Room.{Room}
use Rattle.shared_spool.proofs.spool.SharedSpool.idle_room.Goals as goal

pub returns-then-is_idle : goal.returns-then-is_idle
returns-then-is_idle g c =
    subst (λ (r : Room g.row.E.Denot g.row.K.Denot g.row.H.Denot). IsRight r.locked.core (λ d b h. IsIdle d b h r.locked.core)) c.deref.ensures
    (λ d b h l. (c.is_idle.ensures d b h l).0 c.if-is_idle.true)

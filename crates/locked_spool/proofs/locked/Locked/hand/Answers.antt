use Rattle.std.proofs.Common.{refl, rules}
use Rattle.locked_spool.proofs.Written.{calm_at, counted, room_here, written_left}
use Rattle.locked_spool.proofs.locked.Locked.hand.Goals as goal

pub write-requires-clause-room : goal.write-requires-clause-room
write-requires-clause-room g c =
    let s = c.in-Handed.ensures in
    room_here c.self.invariant (s.answer _ _ _ c.self.invariant.left).1 s.config refl

pub invariant_of-self : goal.invariant_of-self
invariant_of-self g c =
    let i = c.self.invariant in
    let a = c.self.inside in
    let w = c.write.ensures in
    let s = c.in-Handed.ensures in
    let n = counted i ((s.answer _ _ _ i.left).1) s.config refl in
    written_left i {k = c.next.new.self} c.write.new.account.events c.write.new.account.kept c.write.new.account.room c.write.new.books (search rules) n s.config w.events w.kept w.room w.books (calm_at i c.write.new.account.events w.events refl)

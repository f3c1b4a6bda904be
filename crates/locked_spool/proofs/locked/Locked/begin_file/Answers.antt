use Rattle.std.proofs.Common.{refl}
use Rattle.locked_spool.proofs.Written.{room_here, written_here}
use Rattle.locked_spool.proofs.locked.Locked.begin_file.Goals as goal

pub write-requires-clause-room : goal.write-requires-clause-room
write-requires-clause-room g c =
    let s = c.in_ok-begin_file.ensures in
    room_here c.self.invariant (s.answer _ _ _ c.self.invariant.left).1 s.config refl

pub invariant_of-self-2 : goal.invariant_of-self-2
invariant_of-self-2 g c =
    let i = c.self.invariant in
    let a = c.self.inside in
    let w = c.write.ensures in
    let s = c.in_ok-begin_file.ensures in
    written_here i c.write.new.account.events c.write.new.account.kept c.write.new.account.room c.write.new.books ((s.answer _ _ _ i.left).1) s.config refl refl w.events w.kept w.room w.books

use Rattle.std.proofs.Common.{◌≡◌, ℕ, refl, ap, subst, rules}
use Rattle.std.specs.Prelude.{Ok}
use Rattle.spool_calls.specs.declared.handed.HandedPage.{HandedPage}
use Rattle.spool_calls.specs.Kept.{Kept}
use Rattle.spool_calls.specs.Calls.{Fails, IsRight}
use Rattle.locked_spool.specs.Held.{Held}
use Rattle.locked_spool.proofs.Written.{counted, room_here, written_left}
use Rattle.locked_spool.proofs.locked.Locked.failed.Goals as goal

pub write-requires-clause-room : goal.write-requires-clause-room
write-requires-clause-room g c =
    let s = c.in_ok-failed.ensures in
    room_here c.self.invariant (s.answer _ _ _ c.self.invariant.left).2 s.config refl

-- the answer is right of the core as it is seen
right : (old now new : Kept) (printer : ℕ) (page : HandedPage) → old ≡ now → IsRight old (λ d b h. Fails d b h old printer page new (Ok tt)) → IsRight now (λ d b h. Fails d b h now printer page new (Ok tt))
right old now new printer page e a = subst (λ (z : Kept). IsRight z (λ d b h. Fails d b h z printer page new (Ok tt))) e a

pub returns-clause-answer : goal.returns-clause-answer
returns-clause-answer g c _ =
    right c.self.inside.core c.args.self.now.core c.failed.new.self c.args.printer c.args.page (ap (λ (z : Held). z.core) c.self.view_is) c.in_ok-failed.ensures.answer

pub invariant_of-self-2 : goal.invariant_of-self-2
invariant_of-self-2 g c =
    let i = c.self.invariant in
    let a = c.self.inside in
    let w = c.write.ensures in
    let s = c.in_ok-failed.ensures in
    let n = counted i ((s.answer _ _ _ i.left).2) s.config refl in
    written_left i {k = c.failed.new.self} c.write.new.account.events c.write.new.account.kept c.write.new.account.room c.write.new.books (search rules) n s.config w.events w.kept w.room w.books (λ q is some. refl)

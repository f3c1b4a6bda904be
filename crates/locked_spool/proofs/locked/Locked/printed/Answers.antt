use Rattle.std.proofs.Common.{◌≡◌, ℕ, List, ◌∷◌, refl, ap, subst, rules}
use Rattle.std.specs.Prelude.{Ok}
use Rattle.account.specs.Seen.{base_seen, progress_seen}
use Rattle.account.specs.declared.entry.Outline.{Outline}
use Rattle.account.specs.declared.entry.Progress.{Progress}
use Rattle.spool_history.specs.Base.{Base}
use Rattle.spool_history.specs.Events.{Event}
use Rattle.spool_history.specs.Events.Turn.{Printed}
use Rattle.spool_history.specs.Events.Event.{AtPrinter}
use Rattle.spool_calls.specs.declared.handed.HandedPage.{HandedPage}
use Rattle.spool_calls.specs.Looks.Detail.{Outlines}
use Rattle.spool_calls.specs.Kept.{Kept, Leaves}
use Rattle.spool_calls.specs.Calls.{IsRight, Prints}
use Rattle.locked_spool.specs.Held.{Held}
use Rattle.locked_spool.proofs.Written.{calm_at, counted, room_here, written_left}
use Rattle.locked_spool.proofs.locked.Locked.printed.Goals as goal

-- what came back is what was handed, by its length and digest
came : (b : Base) (h : List (Event Outline)) (old new : Kept) (printer : ℕ) (page : HandedPage) (said : Progress) (a : Prints Outlines b h old printer page new (Ok said))
    → Leaves Outlines b (AtPrinter printer a.0 (Printed (progress_seen said)) ∷ h) new
came b h old new printer page said a = a.3 a.1.3

pub write-requires-clause-room : goal.write-requires-clause-room
write-requires-clause-room g c =
    let i = c.self.invariant in
    let a = c.self.inside in
    let s = c.in_ok-said.ensures in
    room_here i (came (base_seen a.base) a.account.events a.core c.printed.new.self c.args.printer c.args.page c.in_ok-said.said (s.answer _ _ _ i.left)) s.config refl

-- the answer is right of the core as it is seen
right : (old now new : Kept) (printer : ℕ) (page : HandedPage) (said : Progress) → old ≡ now → IsRight old (λ d b h. Prints d b h old printer page new (Ok said)) → IsRight now (λ d b h. Prints d b h now printer page new (Ok said))
right old now new printer page said e a = subst (λ (z : Kept). IsRight z (λ d b h. Prints d b h z printer page new (Ok said))) e a

pub returns-clause-answer : goal.returns-clause-answer
returns-clause-answer g c _ =
    right c.self.inside.core c.args.self.now.core c.printed.new.self c.args.printer c.args.page c.in_ok-said.said (ap (λ (z : Held). z.core) c.self.view_is) c.in_ok-said.ensures.answer

pub invariant_of-self-2 : goal.invariant_of-self-2
invariant_of-self-2 g c =
    let i = c.self.invariant in
    let a = c.self.inside in
    let w = c.write.ensures in
    let s = c.in_ok-said.ensures in
    let n = counted i (came (base_seen a.base) a.account.events a.core c.printed.new.self c.args.printer c.args.page c.in_ok-said.said (s.answer _ _ _ i.left)) s.config refl in
    written_left i {k = c.printed.new.self} c.write.new.account.events c.write.new.account.kept c.write.new.account.room c.write.new.books (search rules) n s.config w.events w.kept w.room w.books (calm_at i c.write.new.account.events w.events refl)

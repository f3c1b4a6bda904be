use Rattle.std.proofs.Common.{◌≡◌, List, ◌∷◌, true, false, refl, ◌∙◌, inl, inr}
use Rattle.account.specs.declared.entry.Outline.{Outline}
use Rattle.spool_history.specs.Base.{Base}
use Rattle.spool_history.specs.Events as E
use Rattle.spool_history.specs.Events.{Event}
use Rattle.spool_calls.specs.Looks.Detail.{Outlines}
use Rattle.spool_calls.specs.Kept.{Kept, Leaves}
use Rattle.spool_calls.specs.Calls.{Closes, before}
use Rattle.locked_spool.proofs.Written.{room_here, written_here}
use Rattle.locked_spool.proofs.locked.Locked.close.Goals as goal

-- an open spool is closed by this
closed : (b : Base) (h : List (Event Outline)) (old new : Kept) → false ≡ (before Outlines b h old).closed → Closes Outlines b h old new → Leaves Outlines b (E.Event.Closed ∷ h) new
closed b h old new is a = elim a [ inl x ↦ x.1 | inr x ↦ absurd (let e : false ≡ true = is ∙ x.0 in cc) ]

pub write-requires-clause-room : goal.write-requires-clause-room
write-requires-clause-room g c =
    let i = c.self.invariant in
    let s = c.close.ensures in
    room_here i (closed _ _ _ _ (c.if-is_closed.ensures.closed _ _ _ i.left) (s.answer _ _ _ i.left)) s.config refl

pub invariant_of-self : goal.invariant_of-self
invariant_of-self g c =
    let i = c.self.invariant in
    let a = c.self.inside in
    let w = c.write.ensures in
    let s = c.close.ensures in
    written_here i c.write.new.account.events c.write.new.account.kept c.write.new.account.room c.write.new.books (closed _ _ _ _ (c.if-is_closed.ensures.closed _ _ _ i.left) (s.answer _ _ _ i.left)) s.config refl refl w.events w.kept w.room w.books

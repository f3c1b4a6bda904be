use Rattle.std.proofs.Common.{◌≡◌, ℕ, List, ◌∷◌, refl, ap, subst}
use Rattle.std.specs.Prelude.{Ok}
use Rattle.page_pool.specs.Page.{Page}
use Rattle.account.specs.Seen.{base_seen}
use Rattle.account.specs.declared.entry.Outline.{Outline}
use Rattle.spool_history.specs.Base.{Base}
use Rattle.spool_history.specs.Events.{Event}
use Rattle.spool_history.specs.Events.Act.{Granted}
use Rattle.spool_history.specs.Events.Event.{OfJob}
use Rattle.spool_calls.specs.declared.answers.Asked.{Asked}
use Rattle.spool_calls.specs.declared.answers.Asked.TheVariants as asked
use Rattle.spool_calls.specs.Looks.Detail.{Outlines}
use Rattle.spool_calls.specs.Kept.{Kept, Leaves}
use Rattle.spool_calls.specs.Calls.{Asks, IsRight}
use Rattle.locked_spool.specs.Held.{Held}
use Rattle.locked_spool.proofs.Written.{room_here, written_here}
use Rattle.locked_spool.proofs.locked.Locked.ask.Goals as goal

-- where a page was lent
lent : (b : Base) (h : List (Event Outline)) (old new : Kept) (job : ℕ) (x : Asked) (ticket : Page) → x ≡ asked.Page ticket → Asks Outlines b h old job new (Ok x)
    → Leaves Outlines b (OfJob job Granted ∷ h) new
lent b h old new job x ticket is a = (subst (λ (y : Asked). Asks Outlines b h old job new (Ok y)) is a).2

-- the answer is right of the core as it is seen
right : (old now new : Kept) (job : ℕ) (x y : Asked) → old ≡ now → x ≡ y → IsRight old (λ d b h. Asks d b h old job new (Ok x)) → IsRight now (λ d b h. Asks d b h now job new (Ok y))
right old now new job x y e f a =
    subst (λ (z : Kept). IsRight z (λ d b h. Asks d b h z job new (Ok y))) e
    (subst (λ (v : Asked). IsRight old (λ d b h. Asks d b h old job new (Ok v))) f a)

pub write-requires-clause-room : goal.write-requires-clause-room
write-requires-clause-room g c =
    let i = c.self.invariant in
    let a = c.self.inside in
    let s = c.in_ok-ticket.ensures in
    room_here i (lent (base_seen a.base) a.account.events a.core c.ask.new.self c.args.job c.in_ok-ticket.field-0 c.in-Page.ticket c.in-Page.is (s.answer _ _ _ i.left)) s.config refl

pub returns-in-Page-clause-answer : goal.returns-in-Page-clause-answer
returns-in-Page-clause-answer g c =
    right c.self.inside.core c.args.self.now.core c.ask.new.self c.args.job c.in_ok-ticket.field-0 (asked.Page c.in-Page.ticket) (ap (λ (z : Held). z.core) c.self.view_is) c.in-Page.is c.in_ok-ticket.ensures.answer

pub returns-in-Later-clause-answer : goal.returns-in-Later-clause-answer
returns-in-Later-clause-answer g c =
    right c.self.inside.core c.args.self.now.core c.ask.new.self c.args.job c.in_ok-ticket.field-0 asked.Later (ap (λ (z : Held). z.core) c.self.view_is) c.in-Later.is c.in_ok-ticket.ensures.answer

pub invariant_of-self-in-Page : goal.invariant_of-self-in-Page
invariant_of-self-in-Page g c =
    let i = c.self.invariant in
    let a = c.self.inside in
    let w = c.write.ensures in
    let s = c.in_ok-ticket.ensures in
    written_here i c.write.new.account.events c.write.new.account.kept c.write.new.account.room c.write.new.books (lent (base_seen a.base) a.account.events a.core c.ask.new.self c.args.job c.in_ok-ticket.field-0 c.in-Page.ticket c.in-Page.is (s.answer _ _ _ i.left)) s.config refl refl w.events w.kept w.room w.books

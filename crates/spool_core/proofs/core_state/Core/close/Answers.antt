use Rattle.std.proofs.Common.{true, List, ◌∷◌, refl, subst}
use Rattle.spool_history.specs.Base.{Base}
use Rattle.spool_history.specs.Events.{Event}
use Rattle.spool_history.specs.Events.Event.{Closed}
use Rattle.spool_calls.specs.Looks.{Detail, What}
use Rattle.spool_calls.specs.Looks.Detail.{Outlines}
use Rattle.spool_calls.specs.Kept.{Kept}
use Rattle.spool_calls.specs.Calls.{Closes, IsRight}
use Rattle.spool_calls.specs.Stocks.{stock}
use Rattle.step_lemmas.proofs.Cores.EndingMany.{stocked}
use Rattle.step_lemmas.proofs.Cores.Closing.{close_done, close_leaves}
use Rattle.spool_core.specs.Inside.{core_view}
use Rattle.spool_core.proofs.Cores.{still}
use Rattle.spool_core.proofs.core_state.Core.close.Goals as goal

abbrev Answer : Kept → Kept → (d : Detail) → Base → List (Event (What d)) → Type 0
Answer new k d b h = Closes d b h k new

pub end_all-requires : goal.end_all-requires
end_all-requires c =
    let a = c.self.inside in
    let r = c.self.invariant.reached in
    stocked Outlines r.0 r.1 (core_view a) r.2

pub invariant_of-self : goal.invariant_of-self
invariant_of-self c =
    let r = c.self.invariant.reached in
    let left = stock c.end_all.new.book c.end_all.new.pool c.end_all.new.table in
    still c.self.inside _ c.self.invariant refl refl refl (r.0, Closed ∷ r.1, close_leaves Outlines r.0 r.1 (core_view c.self.inside) r.2 left c.if-self.false c.end_all.ensures)

pub returns-clause-answer : goal.returns-clause-answer
returns-clause-answer c =
    let k = core_view c.self.inside in
    let left = stock c.end_all.new.book c.end_all.new.pool c.end_all.new.table in
    subst (λ (z : Kept). IsRight z (Answer (record k { pool = c.end_all.new.pool; book = c.end_all.new.book; table = c.end_all.new.table; closed = true }) z)) c.self.view_is
    (λ d b h l. close_done d b h k l left c.if-self.false c.end_all.ensures)

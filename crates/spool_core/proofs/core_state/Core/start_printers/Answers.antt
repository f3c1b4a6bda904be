use Rattle.std.proofs.Common.{◌≡◌, ℕ, List, map, refl, ap, subst, sym, ◌∙◌}
use Rattle.std.specs.Vec.{with_items}
use Rattle.std.proofs.lemmas.List.{with_items_is}
use Rattle.spool_history.specs.Base.{Base}
use Rattle.spool_history.specs.Events.{Event}
use Rattle.spool_calls.specs.declared.printer.Printer.{Printer}
use Rattle.spool_calls.specs.Looks.{Detail, What}
use Rattle.spool_calls.specs.Looks.Detail.{Outlines}
use Rattle.spool_calls.specs.Kept.{Kept, Leaves}
use Rattle.spool_calls.specs.Calls.{IsRight}
use Rattle.spool_calls.specs.Printers.{started}
use Rattle.step_lemmas.proofs.Cores.Starting.{start_leads, start_reaches, started_core}
use Rattle.spool_core.specs.Halves.{StartsQueue}
use Rattle.spool_core.specs.Inside.{core_view}
use Rattle.spool_core.specs.Places.{Takes}
use Rattle.spool_core.proofs.Cores.{still}
use Rattle.spool_core.proofs.core_state.Core.start_printers.Goals.{After-start_printers}
use Rattle.spool_core.proofs.core_state.Core.start_printers.Goals as goal

abbrev Answer : ℕ → Kept → Kept → (d : Detail) → Base → List (Event (What d)) → Type 0
Answer q new k d b h = StartsQueue d b h k q new

-- the printers of the queue are started
module _ (c : After-start_printers) where
  abbrev k : Kept
  k = core_view c.self.inside

  abbrev new : Kept
  new = record k { printers = (with_items c.self.inside.printers c.start_printers.new.printers).items }

  is_started : started_core k c.args.queue ≡ new
  is_started = ap (λ (ps : List Printer). record k { printers = ps })
      (sym (with_items_is c.self.inside.printers c.start_printers.new.printers (c.start_printers.auto.printers ∙ c.as_mut_slice.ensures.len) ∙ (c.start_printers.ensures ∙ ap (map (started c.args.queue)) c.as_mut_slice.ensures.value)))

  takes : Takes k c.args.queue
  takes = subst (λ (z : Kept). Takes z c.args.queue) (sym c.self.view_is) c.requires

pub invariant_of-self : goal.invariant_of-self
invariant_of-self c =
    let x = (goal.at.invariant_of-self c).After-start_printers in
    let r = c.self.invariant.reached in
    let t = takes x in
    let next = start_reaches Outlines r.0 r.1 (k x) r.2 c.args.queue t.open' t.is in
    still c.self.inside _ c.self.invariant refl refl refl (r.0, next.0, subst (λ (w : Kept). Leaves Outlines r.0 next.0 w) (is_started x) next.1)

pub returns-clause-answer : goal.returns-clause-answer
returns-clause-answer c =
    let x = (goal.at.returns-clause-answer c).After-start_printers in
    let t = takes x in
    subst (λ (z : Kept). IsRight z (Answer c.args.queue (new x) z)) c.self.view_is
    (λ d b h l. subst (λ (w : Kept). StartsQueue d b h (k x) c.args.queue w) (is_started x) (start_leads d b h (k x) l c.args.queue t.open' t.is))

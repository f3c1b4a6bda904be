use Rattle.std.proofs.Common.{◌≡◌, ℕ, List, [], map, refl, ap, subst, sym, ◌∙◌}
use Rattle.std.specs.Vec.{with_items}
use Rattle.std.proofs.lemmas.List.{with_items_is}
use Rattle.spool_history.specs.Base.{Base}
use Rattle.spool_history.specs.Events.{Event}
use Rattle.spool_history.specs.Rotated.{rotated}
use Rattle.spool_calls.specs.declared.printer.Printer.{Printer}
use Rattle.spool_calls.specs.Looks.{Detail, What}
use Rattle.spool_calls.specs.Looks.Detail.{Outlines}
use Rattle.spool_calls.specs.Kept.{Kept, left_by}
use Rattle.spool_calls.specs.Calls.{IsRight, Rotates}
use Rattle.spool_calls.specs.Printers.{stopped_among, with_none}
use Rattle.step_lemmas.proofs.Cores.Closing.{rotate_done, rotated_core}
use Rattle.spool_core.specs.Inside.{core_view}
use Rattle.spool_core.proofs.Cores.{still}
use Rattle.spool_core.proofs.core_state.Core.rotated.Goals.{After-forget_jobs}
use Rattle.spool_core.proofs.core_state.Core.rotated.Goals as goal

abbrev Answer : Kept → Kept → (d : Detail) → Base → List (Event (What d)) → Type 0
Answer new k d b h = Rotates d b h k new

-- what is kept
module _ (c : After-forget_jobs) where
  abbrev k : Kept
  k = core_view c.self.inside

  abbrev new : Kept
  new = record k { reserved = c.count_stopped.result; printers = (with_items c.self.inside.printers c.forget_jobs.new.printers).items }

  rotates : IsRight k (Answer new k)
  rotates d b h l =
      let printers = with_items_is c.self.inside.printers c.forget_jobs.new.printers (c.forget_jobs.auto.printers ∙ c.as_mut_slice.ensures.len) ∙ (c.forget_jobs.ensures ∙ ap (map with_none) c.as_mut_slice.ensures.value) in
      let count : c.count_stopped.result ≡ stopped_among k.printers = c.count_stopped.ensures ∙ ap stopped_among c.as_slice.ensures.value in
      let is : rotated_core k ≡ new =
      ap (λ (n : ℕ). record k { reserved = n; printers = map with_none k.printers }) (sym count) ∙ ap (λ (ps : List Printer). record k { reserved = c.count_stopped.result; printers = ps }) (sym printers) in
      subst (λ (w : Kept). Rotates d b h k w) is (rotate_done d b h k l (ap (λ (z : Kept). z.book.jobs) c.self.view_is ∙ c.requires))

pub invariant_of-self : goal.invariant_of-self
invariant_of-self c =
    let x = (goal.at.invariant_of-self c).After-forget_jobs in
    let r = c.self.invariant.reached in
    still c.self.inside _ c.self.invariant refl refl refl (rotated (left_by Outlines r.0 r.1 (core_view c.self.inside)), [], rotates x Outlines r.0 r.1 r.2)

pub returns-clause-answer : goal.returns-clause-answer
returns-clause-answer c =
    let x = (goal.at.returns-clause-answer c).After-forget_jobs in
    subst (λ (z : Kept). IsRight z (Answer (new x) z)) c.self.view_is (rotates x)

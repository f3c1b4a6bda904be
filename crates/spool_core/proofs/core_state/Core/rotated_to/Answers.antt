use Rattle.std.proofs.Common.{◌≡◌, ℕ, ◌+◌, List, [], length, map, ap, subst, sym, ◌∙◌}
use Rattle.std.specs.Vec.{with_items}
use Rattle.std.proofs.lemmas.List.{with_items_is}
use Rattle.config_values.specs.Config.{Config}
use Rattle.config_values.specs.Ranges.{IsConfig}
use Rattle.spool_history.specs.Base.{Base}
use Rattle.spool_history.specs.Events.{Event}
use Rattle.spool_history.specs.Rotated.{rotated}
use Rattle.spool_calls.specs.declared.printer.Printer.{Printer}
use Rattle.spool_calls.specs.Looks.{Detail, What}
use Rattle.spool_calls.specs.Looks.Detail.{Outlines}
use Rattle.spool_calls.specs.Kept.{Kept, left_by}
use Rattle.spool_calls.specs.Calls.{IsRight, Rotates}
use Rattle.spool_calls.specs.Printers.{stopped_among, with_none}
use Rattle.step_lemmas.proofs.Cores.Closing.{rotated_core}
use Rattle.spool_core.specs.Inside.{core_view}
use Rattle.spool_core.proofs.Widened.{larger, rotated_with, with_account}
use Rattle.spool_core.proofs.core_state.Core.rotated_to.Goals.{After-set_account}
use Rattle.spool_core.proofs.core_state.Core.rotated_to.Goals as goal

abbrev Answer : Kept → Kept → (d : Detail) → Base → List (Event (What d)) → Type 0
Answer new k d b h = Rotates d b h k new

-- what is kept
module _ (c : After-set_account) where
  abbrev k : Kept
  k = core_view c.self.inside

  abbrev n : ℕ
  n = c.args.entries

  abbrev items : List Printer
  items = (with_items c.self.inside.printers c.forget_jobs.new.printers).items

  abbrev new : Kept
  new = record k { config = c.set_account.new.self; reserved = c.count_stopped.result; printers = items }

  rotates : IsRight k (Answer new k)
  rotates d b h l =
      let printers = with_items_is c.self.inside.printers c.forget_jobs.new.printers (c.forget_jobs.auto.printers ∙ c.as_mut_slice.ensures.len) ∙ (c.forget_jobs.ensures ∙ ap (map with_none) c.as_mut_slice.ensures.value) in
      let count : c.count_stopped.result ≡ stopped_among k.printers = c.count_stopped.ensures ∙ ap stopped_among c.as_slice.ensures.value in
      let is : with_account n (rotated_core k) ≡ new =
      ap (λ (m : ℕ). record k { config = record k.config { account = n }; reserved = m; printers = map with_none k.printers }) (sym count)
      ∙ (ap (λ (ps : List Printer). record k { config = record k.config { account = n }; reserved = c.count_stopped.result; printers = ps }) (sym printers)
      ∙ ap (λ (z : Config). record k { config = z; reserved = c.count_stopped.result; printers = items }) (sym c.set_account.ensures)) in
      subst (λ (w : Kept). Rotates d b h k w) is (rotated_with d b h k l n (ap (λ (z : Kept). z.book.jobs) c.self.view_is ∙ c.requires.jobs))

pub invariant_of-self : goal.invariant_of-self
invariant_of-self c =
    let x = (goal.at.invariant_of-self c).After-set_account in
    let i = c.self.invariant in
    let r = i.reached in
    let e = c.set_account.ensures in
    record {
      ranges = subst IsConfig (sym e) (larger c.self.inside.config c.args.entries i.ranges c.requires.some.0 c.requires.some.1);
      reached = (rotated (left_by Outlines r.0 r.1 (core_view c.self.inside)), [], rotates x Outlines r.0 r.1 r.2);
      rows = i.rows ∙ ap (λ (z : Config). z.max_jobs) (sym e);
      kinds = i.kinds ∙ ap (λ (z : Config). length z.queues + 1) (sym e);
    }

pub returns-clause-answer : goal.returns-clause-answer
returns-clause-answer c =
    let x = (goal.at.returns-clause-answer c).After-set_account in
    subst (λ (z : Kept). IsRight z (Answer (new x) z)) c.self.view_is (rotates x)

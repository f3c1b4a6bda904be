use Rattle.std.proofs.Common.{◌≡◌, ◌≤◌, ◌+◌, ℕ, List, length, ap, subst, sym, ◌∙◌}
use Rattle.config_values.specs.Config.{Config}
use Rattle.config_values.specs.Ranges.{IsConfig}
use Rattle.spool_history.specs.Base.{Base}
use Rattle.spool_history.specs.Events.{Event}
use Rattle.spool_calls.specs.Looks.{Detail, What}
use Rattle.spool_calls.specs.Looks.Detail.{Outlines}
use Rattle.spool_calls.specs.Kept.{Kept, Leaves}
use Rattle.spool_calls.specs.Calls.{IsRight}
use Rattle.spool_core.specs.Inside.{core_view}
use Rattle.spool_core.proofs.Widened.{larger, some, widened, with_account}
use Rattle.spool_core.proofs.core_state.Core.set_account.Goals.{After-set_account}
use Rattle.spool_core.proofs.core_state.Core.set_account.Goals as goal

abbrev Answer : Kept → Kept → (d : Detail) → Base → List (Event (What d)) → Type 0
Answer new k d b h = Leaves d b h new

module _ (c : After-set_account) where
  abbrev k : Kept
  k = core_view c.self.inside

  abbrev n : ℕ
  n = c.args.entries

  new_is : with_account n k ≡ record k { config = c.set_account.new.self }
  new_is = ap (λ (z : Config). record k { config = z }) (sym c.set_account.ensures)

  leaves : (d : Detail) (b : Base) (h : List (Event (What d))) → Leaves d b h k → Leaves d b h (record k { config = c.set_account.new.self })
  leaves d b h l = subst (λ (z : Kept). Leaves d b h z) new_is (widened d b h k l n (subst (λ (z : Kept). z.config.account ≤ n) (sym c.self.view_is) c.requires.more))

pub invariant_of-self : goal.invariant_of-self
invariant_of-self c =
    let x = (goal.at.invariant_of-self c).After-set_account in
    let i = c.self.invariant in
    let r = i.reached in
    let e = c.set_account.ensures in
    let more = subst (λ (z : Kept). z.config.account ≤ c.args.entries) (sym c.self.view_is) c.requires.more in
    record {
      ranges = subst IsConfig (sym e) (larger c.self.inside.config c.args.entries i.ranges (some c.self.inside.config c.args.entries i.ranges more) c.requires.most);
      reached = (r.0, r.1, leaves x Outlines r.0 r.1 r.2);
      rows = i.rows ∙ ap (λ (z : Config). z.max_jobs) (sym e);
      kinds = i.kinds ∙ ap (λ (z : Config). length z.queues + 1) (sym e);
    }

pub returns-clause-answer : goal.returns-clause-answer
returns-clause-answer c =
    let x = (goal.at.returns-clause-answer c).After-set_account in
    subst (λ (z : Kept). IsRight z (Answer (record (k x) { config = c.set_account.new.self }) z)) c.self.view_is (leaves x)

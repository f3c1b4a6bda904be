use Rattle.std.proofs.Common.{◌≡◌, ◌==◌, ◌∙◌, ℕ, List}
use Rattle.std.specs.Prelude.{count_by}
use Rattle.spool_history.specs.Base.{Base}
use Rattle.spool_history.specs.Events.{Event}
use Rattle.spool_history.specs.Now.{Job}
use Rattle.spool_calls.specs.Looks.{Detail, What}
use Rattle.spool_calls.specs.Kept.{Kept, left_by}
use Rattle.spool_core.specs.Inside.{core_view}
use Rattle.spool_core.proofs.Cores.{stays}
use Rattle.spool_core.proofs.Wanted.{in_queue}
use Rattle.spool_core.proofs.core_state.Core.held_in.Goals as goal

abbrev Answer : ℕ → ℕ → Kept → (d : Detail) → Base → List (Event (What d)) → Type 0
Answer n q k d b h = n ≡ count_by (λ (v : Job (What d)). v.queue == q) (left_by d b h k).jobs

pub returns : goal.returns
returns c =
    let k = core_view c.self.inside in
    stays k c.args.self.now (Answer c.count_in.result c.args.queue) c.self.view_is (λ d b h l. c.count_in.ensures ∙ in_queue d b h k l c.args.queue)

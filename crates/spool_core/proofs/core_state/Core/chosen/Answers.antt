use Rattle.std.proofs.Common.{ℕ, List, Global}
use Rattle.std.specs.Prelude.{Result, Ok, Vec}
use Rattle.lpd_values.specs.declared.refusal.Refusal.{Refusal}
use Rattle.spool_history.specs.Base.{Base}
use Rattle.spool_history.specs.Events.{Event}
use Rattle.spool_calls.specs.Looks.{Detail, What}
use Rattle.spool_calls.specs.Kept.{Kept}
use Rattle.spool_calls.specs.Telling.{Chooses}
use Rattle.step_lemmas.proofs.Cores.Telling.{choose_numbers}
use Rattle.spool_core.specs.Inside.{core_view}
use Rattle.spool_core.proofs.Cores.{stays}
use Rattle.spool_core.proofs.core_state.Core.chosen.Goals as goal

abbrev Answer : List ℕ → List ℕ → List (List ℕ) → Result (Vec ℕ Global) Refusal → Kept → (d : Detail) → Base → List (Event (What d)) → Type 0
Answer name agent list r k d b h = Chooses d b h k name agent list r

pub returns : goal.returns
returns c =
    let a = c.self.inside in
    let name = c.args.queue.now in
    let agent = c.args.agent.now in
    let list = c.args.list.now in
    stays (core_view a) c.args.self.now (Answer name agent list (Ok c.in_ok-numbers.numbers)) c.self.view_is
    (λ d b h l. choose_numbers d b h (core_view a) l name agent list c.in-Some.q c.in_ok-numbers.numbers c.if-self.false c.in-Some.ensures.named c.in-Some.ensures.found.0 c.in_ok-numbers.ensures)

use Rattle.std.proofs.Common.{◌≡◌, ℕ, ◌+◌, List, ap, ◌∙◌}
use Rattle.spool_history.specs.Base.{Base}
use Rattle.spool_history.specs.Events.{Event}
use Rattle.spool_calls.specs.Looks.{Detail, What}
use Rattle.spool_calls.specs.Kept.{Kept}
use Rattle.spool_calls.specs.Calls.{before}
use Rattle.spool_calls.specs.Printers.{stopped_among}
use Rattle.spool_laws.specs.Freeing.{still_reserved}
use Rattle.spool_core.specs.Inside.{core_view}
use Rattle.spool_core.proofs.Cores.{stays}
use Rattle.spool_core.proofs.Widened.{still_is}
use Rattle.spool_core.proofs.core_state.Core.still_reserved.Goals as goal

abbrev Answer : ℕ → Kept → (d : Detail) → Base → List (Event (What d)) → Type 0
Answer n k d b h = n ≡ still_reserved (before d b h k)

pub returns : goal.returns
returns c =
    let k = core_view c.self.inside in
    stays k c.args.self.now (Answer (c.reserves_of-held.result + c.count_stopped.result)) c.self.view_is
    (λ d b h l. still_is d b h k l c.reserves_of-held.result c.count_stopped.result c.reserves_of-held.ensures.value (c.count_stopped.ensures ∙ ap stopped_among c.as_slice.ensures.value))

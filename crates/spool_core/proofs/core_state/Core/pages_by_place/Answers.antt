use Rattle.std.proofs.Common.{List, ap, ◌∙◌}
use Rattle.spool_history.specs.Base.{Base}
use Rattle.spool_history.specs.Events.{Event}
use Rattle.spool_calls.specs.Looks.{Detail, What}
use Rattle.spool_calls.specs.Kept.{Kept}
use Rattle.spool_calls.specs.Readers.{ArePlaced, Placed, placed}
use Rattle.spool_calls.specs.Printers.{out_among}
use Rattle.step_lemmas.proofs.Cores.Reading.{places_read}
use Rattle.spool_core.specs.Inside.{core_view}
use Rattle.spool_core.proofs.Cores.{stays}
use Rattle.spool_core.proofs.core_state.Core.pages_by_place.Goals as goal

abbrev Answer : Placed → Kept → (d : Detail) → Base → List (Event (What d)) → Type 0
Answer p k d b h = ArePlaced d b h k p

pub returns : goal.returns
returns c =
    let k = core_view c.self.inside in
    stays k c.args.self.now (Answer (placed c.free.result c.stored.result c.count_lent.result c.count_out.result)) c.self.view_is
    (λ d b h l. places_read d b h k l c.free.result c.stored.result c.count_lent.result c.count_out.result c.free.ensures.free c.stored.ensures c.count_lent.ensures (c.count_out.ensures ∙ ap out_among c.as_slice.ensures.value))

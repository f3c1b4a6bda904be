use Rattle.std.proofs.Common.{◌≡◌, List, map, refl, ap, ◌∙◌}
use Rattle.account.specs.Seen.{base_seen}
use Rattle.account.specs.declared.base.Base.{Base as Kept'}
use Rattle.spool_history.specs.Base.{Base}
use Rattle.spool_history.specs.Events.{Event}
use Rattle.spool_history.specs.Rotated.{rotated}
use Rattle.spool_calls.specs.declared.printer.Printer.{Printer}
use Rattle.spool_calls.specs.Looks.{Detail, What}
use Rattle.spool_calls.specs.Kept.{Kept}
use Rattle.spool_calls.specs.Calls.{before}
use Rattle.spool_calls.specs.Printers.{stopped_among}
use Rattle.spool_core.specs.Inside.{core_view}
use Rattle.spool_core.proofs.Cores.{stays}
use Rattle.spool_core.proofs.Widened.{base_is}
use Rattle.spool_core.proofs.core_state.Core.base.Goals as goal

abbrev Answer : Kept' → Kept → (d : Detail) → Base → List (Event (What d)) → Type 0
Answer base k d b h = base_seen base ≡ rotated (before d b h k)

pub returns : goal.returns
returns c =
    let a = c.self.inside in
    let k = core_view a in
    stays k c.args.self.now (Answer (record { accepted = a.accepted; reserved = c.count_stopped.result; closed = a.closed; stopped = c.in_ok-stops_of.field-0 })) c.self.view_is
    (λ d b h l. base_is d b h k l a.accepted c.count_stopped.result a.closed c.in_ok-stops_of.field-0.items refl (c.count_stopped.ensures ∙ ap stopped_among c.as_slice.ensures.value) refl
    (c.in_ok-stops_of.ensures ∙ ap (map (λ (p : Printer). p.stopped)) c.as_slice-2.ensures.value))

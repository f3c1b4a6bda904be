use Rattle.std.proofs.Common.{◌≡◌, ℕ, Bool, List, ap}
use Rattle.spool_history.specs.Base.{Base}
use Rattle.spool_history.specs.Events.{Event}
use Rattle.spool_history.specs.Next.{printer_at}
use Rattle.spool_calls.specs.declared.printer.Printer.{Printer}
use Rattle.spool_calls.specs.Looks.{Detail, What}
use Rattle.spool_calls.specs.Kept.{Kept, left_by}
use Rattle.step_lemmas.proofs.Cores.Printers.{printer_seen}
use Rattle.spool_core.specs.Inside.{core_view}
use Rattle.spool_core.proofs.Cores.{printer_of, printer_within, stays}
use Rattle.spool_core.proofs.core_state.Core.is_stopped.Goals as goal

abbrev Says : Bool → ℕ → Kept → (d : Detail) → Base → List (Event (What d)) → Type 0
Says stopped p k d b h = stopped ≡ (printer_at (left_by d b h k) p).stopped

pub index-at-requires : goal.index-at-requires
index-at-requires c = printer_within c.self.inside c.args.printer c.self.invariant (printer_of (core_view c.self.inside) c.args.self.now c.args.printer c.self.view_is c.requires)

pub returns : goal.returns
returns c =
    let k = core_view c.self.inside in
    let p = c.args.printer in
    let at = c.index-at.result.now in
    let ip = printer_of k c.args.self.now p c.self.view_is c.requires in
    stays k c.args.self.now (Says at.stopped p) c.self.view_is
    (λ d b h l. ap (λ (x : Printer). x.stopped) (printer_seen d b h k l p at ip c.index-at.ensures))

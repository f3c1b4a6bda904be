use Rattle.std.proofs.Common.{◌≡◌, ℕ, ◌-◌, List, ap, ◌∙◌, get_or}
use Rattle.std.specs.Prelude.{Option}
use Rattle.std.proofs.lemmas.List.{get_or_default}
use Rattle.account.specs.declared.entry.Sheet.{Sheet}
use Rattle.spool_history.specs.Base.{Base}
use Rattle.spool_history.specs.Events.{Event}
use Rattle.spool_history.specs.Next.{printer_at}
use Rattle.spool_calls.specs.declared.printer.Printer.{Printer}
use Rattle.spool_calls.specs.Looks.{Detail, What}
use Rattle.spool_calls.specs.Looks.Detail.{Outlines}
use Rattle.spool_calls.specs.Kept.{Kept, kept_out}
use Rattle.spool_calls.specs.Calls.{before}
use Rattle.step_lemmas.proofs.Cores.Printers.{printer_seen, printer_there}
use Rattle.spool_calls.specs.Printers.{no_kept}
use Rattle.spool_core.specs.Inside.{core_view}
use Rattle.spool_core.proofs.Cores.{printer_of, printer_within, stays}
use Rattle.spool_core.proofs.core_state.Core.out_at.Goals as goal

-- a core that stays as it is has this page out at the printer
abbrev Says : Option Sheet → ℕ → Kept → (d : Detail) → Base → List (Event (What d)) → Type 0
Says out p k d b h = out ≡ kept_out d (printer_at (before d b h k) p).out

pub index-at-requires : goal.index-at-requires
index-at-requires c = printer_within c.self.inside c.args.printer c.self.invariant (printer_of (core_view c.self.inside) c.args.self.now c.args.printer c.self.view_is c.requires)

pub returns-clause-value : goal.returns-clause-value
returns-clause-value c =
    let k = core_view c.self.inside in
    let p = c.args.printer in
    let at = c.index-at.result.now in
    let ip = printer_of k c.args.self.now p c.self.view_is c.requires in
    let r = c.self.invariant.reached in
    let there = printer_there Outlines r.0 r.1 k r.2 p ip in
    ap (λ (x : Printer). x.out) (c.index-at.ensures ∙ get_or_default k.printers (p - 1) at no_kept there)
    ∙ ap (λ (x : Kept). (get_or x.printers (p - 1) no_kept).out) c.self.view_is

pub returns-clause-out : goal.returns-clause-out
returns-clause-out c =
    let k = core_view c.self.inside in
    let p = c.args.printer in
    let at = c.index-at.result.now in
    let ip = printer_of k c.args.self.now p c.self.view_is c.requires in
    stays k c.args.self.now (Says at.out p) c.self.view_is
    (λ d b h l. ap (λ (x : Printer). x.out) (printer_seen d b h k l p at ip c.index-at.ensures))

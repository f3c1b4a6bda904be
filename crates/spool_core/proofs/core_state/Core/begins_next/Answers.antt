use Rattle.std.proofs.Common.{◌≡◌, ◌↔◌, ℕ, List, IsTrue, nat_eq, ap, sym, ◌∙◌, subst}
use Rattle.held_jobs.specs.Books.{job_at}
use Rattle.held_jobs.specs.Jobs.{Facts}
use Rattle.spool_history.specs.Base.{Base}
use Rattle.spool_history.specs.Events.{Event}
use Rattle.spool_calls.specs.Looks.{Detail, What}
use Rattle.spool_calls.specs.Looks.Detail.{Outlines}
use Rattle.spool_calls.specs.Kept.{Kept}
use Rattle.spool_core.specs.Inside.{core_view}
use Rattle.spool_core.specs.Due.{IsTurn}
use Rattle.spool_core.specs.Printers.{BeginsNext}
use Rattle.spool_core.proofs.Begins.{is_zero, turn_begins, turn_within}
use Rattle.spool_core.proofs.Cores.{printer_of, stays}
use Rattle.spool_core.proofs.core_state.Core.begins_next.Goals as goal

pub job-requires : goal.job-requires
job-requires c =
    let r = c.self.invariant.reached in
    let ip = printer_of (core_view c.self.inside) c.args.self.now c.args.printer c.self.view_is c.requires in
    let t = subst (λ (z : Kept). IsTurn z c.args.printer c.in-Page.i c.in-Page.field-1) (sym c.self.view_is) c.in-Page.ensures.turn in
    turn_within Outlines r.0 r.1 (core_view c.self.inside) r.2 c.args.printer ip c.in-Page.i c.in-Page.field-1 t

abbrev Says : ℕ → ℕ → Kept → (d : Detail) → Base → List (Event (What d)) → Type 0
Says n p k d b h = IsTrue (nat_eq n 0) ↔ BeginsNext d b h k p

pub returns-in-Page : goal.returns-in-Page
returns-in-Page c =
    let ip = printer_of (core_view c.self.inside) c.args.self.now c.args.printer c.self.view_is c.requires in
    let turn = subst (λ (z : Kept). IsTurn z c.args.printer c.in-Page.i c.in-Page.field-1) (sym c.self.view_is) c.in-Page.ensures.turn in
    let handed : c.handed.result ≡ (job_at c.self.inside.book c.in-Page.i).facts.handed = c.handed.ensures ∙ ap (λ (y : Facts). y.handed) c.job.ensures in
    stays (core_view c.self.inside) c.args.self.now (Says c.handed.result c.args.printer) c.self.view_is
    (λ d b h l.
    let t = turn_begins d b h (core_view c.self.inside) l c.args.printer ip c.in-Page.i c.in-Page.field-1 turn in
    (λ yes. t.0 (sym handed ∙ is_zero c.handed.result yes), λ begins. ap (λ (n : ℕ). nat_eq n 0) (handed ∙ t.1 begins)))

use Rattle.std.proofs.Common.{ℕ, ◌+◌, ◌-◌, List, ◌∷◌, true, length, refl, subst}
use Rattle.std.specs.Prelude.{None, Result, Ok, Err, remove}
use Rattle.claims.specs.Changes.{closed}
use Rattle.page_chain.specs.Files.{every_page}
use Rattle.held_jobs.specs.Books.{job_at}
use Rattle.spool_history.specs.Base.{Base}
use Rattle.spool_history.specs.Events.{Event}
use Rattle.spool_history.specs.Events.Turn.{Failed}
use Rattle.spool_history.specs.Events.Event.{AtPrinter}
use Rattle.spool_calls.specs.declared.printer.Printer.{Printer}
use Rattle.spool_calls.specs.declared.handed.HandedPage.{HandedPage}
use Rattle.spool_calls.specs.declared.answers.Foreign.{Foreign}
use Rattle.spool_calls.specs.Looks.{Detail, What}
use Rattle.spool_calls.specs.Looks.Detail.{Outlines}
use Rattle.spool_calls.specs.Kept.{Kept}
use Rattle.spool_calls.specs.Calls.{Fails, IsRight}
use Rattle.step_lemmas.proofs.Cores.Backing.{fails_gone, foreign, job_there}
use Rattle.spool_core.specs.Inside.{core_view}
use Rattle.spool_core.proofs.Cores.{printer_of, printer_within, stays, still}
use Rattle.spool_core.proofs.Outs.{Seen, at_is, left, out_is, room, seen_of, view_left}
use Rattle.spool_core.proofs.core_state.Core.failed.Goals.{After-let_go, In-Some}
use Rattle.spool_core.proofs.core_state.Core.failed.Goals as goal

abbrev Answer : ℕ → HandedPage → Result (Unit {0}) Foreign → Kept → Kept → (d : Detail) → Base → List (Event (What d)) → Type 0
Answer p page r new k d b h = Fails d b h k p page new r

abbrev Same : ℕ → HandedPage → Result (Unit {0}) Foreign → Kept → (d : Detail) → Base → List (Event (What d)) → Type 0
Same p page r k d b h = Fails d b h k p page k r

pub index-requires : goal.index-requires
index-requires c = printer_within c.self.inside c.args.printer c.self.invariant (printer_of (core_view c.self.inside) c.args.self.now c.args.printer c.self.view_is c.requires)

pub index_mut-requires : goal.index_mut-requires
index_mut-requires c = printer_within c.self.inside c.args.printer c.self.invariant (printer_of (core_view c.self.inside) c.args.self.now c.args.printer c.self.view_is c.requires)

pub returns-then-not-is_out-clause-answer : goal.returns-then-not-is_out-clause-answer
returns-then-not-is_out-clause-answer c =
    let a = c.self.inside in
    let at = c.index.result.now in
    let ip = printer_of (core_view a) c.args.self.now c.args.printer c.self.view_is c.requires in
    stays (core_view a) c.args.self.now (Same c.args.printer c.args.page (Err (record { page = c.args.page }))) c.self.view_is
    (λ d b h l. (foreign d b h (core_view a) l c.args.printer ip at c.index.ensures c.args.page (λ q. absurd (cc (c.if-not-is_out.ensures.1 (at_is a at.out c.args.page c.page_size.result c.page_size.ensures.value q)))), refl, refl))

pub unreachable-requires : goal.unreachable-requires
unreachable-requires c =
    let a = c.self.inside in
    let at = c.index.result.now in
    let ip = printer_of (core_view a) c.args.self.now c.args.printer c.self.view_is c.requires in
    let r = c.self.invariant.reached in
    job_there Outlines r.0 r.1 (core_view a) r.2 c.args.printer ip at c.index.ensures c.args.page (out_is a at.out c.args.page c.page_size.result c.page_size.ensures.value (c.if-not-is_out.ensures.0 refl)) c.in_default.ensures.absent

-- the page was out at the printer, and its job stands at the place that was found
seen : (c : In-Some) → Seen c.self.inside c.args.printer c.in-Some.i c.index.result.now c.args.page
seen c = seen_of c.self.inside c.args.self.now c.args.printer c.in-Some.i c.index.result.now c.args.page c.page_size.result c.self.view_is c.requires c.index.ensures c.page_size.ensures.value (c.if-not-is_out.ensures.0 refl) c.in-Some.ensures.found

pub let_go-requires-clause-room : goal.let_go-requires-clause-room
let_go-requires-clause-room c = room c.self.inside c.args.printer c.in-Some.i c.index.result.now c.args.page c.self.invariant (seen (goal.at.let_go-requires-clause-room c).In-Some)

-- the job is gone, and the printer stopped
module _ (c : After-let_go) (s : Seen c.self.inside c.args.printer c.in-Some.i c.index.result.now c.args.page) where
  abbrev stopped : Printer
  stopped = record { queue = c.index.result.now.queue; out = None; began = c.index.result.now.began; stopped = true }

  abbrev new : Kept
  new = core_view (left c.self.inside c.args.printer c.let_go.new.pool c.let_go.new.book c.let_go.new.table stopped)

  gone : IsRight (core_view c.self.inside) (Answer c.args.printer c.args.page (Ok tt) new (core_view c.self.inside))
  gone d b h l =
      let a = c.self.inside in
      let e = c.let_go.ensures in
      let n = length (every_page (job_at a.book c.in-Some.i).chain.files) in
      subst (λ (z : Kept). Fails d b h (core_view a) c.args.printer c.args.page z (Ok tt))
      (view_left a c.args.printer c.let_go.new.pool (record a.pool { free = a.pool.free + n + 1 }) c.let_go.new.book (record a.book { jobs = remove a.book.jobs c.in-Some.i; stored = a.book.stored - n })
      c.let_go.new.table (closed a.table c.in-Some.i) stopped e.pool e.book e.table)
      (fails_gone d b h (core_view a) l c.args.printer s.printer c.index.result.now s.at-is c.args.page s.out c.in-Some.i s.found)

pub invariant_of-self : goal.invariant_of-self
invariant_of-self c =
    let x = goal.at.invariant_of-self c in
    let r = c.self.invariant.reached in
    let got = gone x.After-let_go (seen x.In-Some) Outlines r.0 r.1 r.2 in
    still c.self.inside _ c.self.invariant refl refl refl (r.0, AtPrinter c.args.printer got.0 Failed ∷ r.1, got.2)

pub returns-clause-answer : goal.returns-clause-answer
returns-clause-answer c =
    let x = goal.at.returns-clause-answer c in
    let s = seen x.In-Some in
    subst (λ (k : Kept). IsRight k (Answer c.args.printer c.args.page (Ok tt) (new x.After-let_go s) k)) c.self.view_is (gone x.After-let_go s)

use Rattle.std.proofs.Common.{ℕ, ◌+◌, ◌-◌, ◌<◌, ◌^◌, List, ◌∷◌, length, refl, ap, subst, sym, ◌∙◌, arith}
use Rattle.std.specs.Prelude.{Result, Ok, Err, remove}
use Rattle.account.specs.declared.entry.Progress.{Progress}
use Rattle.account.specs.Seen.{progress_seen}
use Rattle.claims.specs.Changes.{closed, given_back}
use Rattle.page_pool.specs.Page.{Page}
use Rattle.page_chain.specs.Files.{every_page}
use Rattle.held_jobs.specs.Moves.{again_job, back_facts, told}
use Rattle.held_jobs.specs.Books.{job_at, with_job}
use Rattle.spool_history.specs.Base.{Base}
use Rattle.spool_history.specs.Events.{Event}
use Rattle.spool_history.specs.Events.Turn.{Printed}
use Rattle.spool_history.specs.Events.Event.{AtPrinter}
use Rattle.spool_calls.specs.declared.printer.Printer.{Printer}
use Rattle.spool_calls.specs.declared.handed.HandedPage.{HandedPage}
use Rattle.spool_calls.specs.declared.answers.Foreign.{Foreign}
use Rattle.spool_calls.specs.Looks.{Detail, What}
use Rattle.spool_calls.specs.Looks.Detail.{Outlines}
use Rattle.spool_calls.specs.Kept.{Kept}
use Rattle.spool_calls.specs.Calls.{IsRight, Prints}
use Rattle.step_lemmas.proofs.Cores.Backing.{again_core, back_awaited, back_core, back_few, back_held, foreign, idle_printer, job_there, prints_again, prints_gone, prints_last, room_stored}
use Rattle.spool_core.specs.declared.core_state.Core.TheInside.{Inside}
use Rattle.spool_core.specs.Inside.{core_view, IsCore}
use Rattle.spool_core.proofs.Cores.{printer_of, printer_within, stays, still}
use Rattle.spool_core.proofs.Outs.{Seen, at_is, left, out_is, room, seen_again, seen_of, view_left}
use Rattle.spool_core.proofs.core_state.Core.printed.Goals.{After-come_again, After-come_back, After-index_mut, After-let_go}
use Rattle.spool_core.proofs.core_state.Core.printed.Goals as goal

abbrev Answer : ℕ → HandedPage → Result Progress Foreign → Kept → Kept → (d : Detail) → Base → List (Event (What d)) → Type 0
Answer p page r new k d b h = Prints d b h k p page new r

abbrev Same : ℕ → HandedPage → Result Progress Foreign → Kept → (d : Detail) → Base → List (Event (What d)) → Type 0
Same p page r k d b h = Prints d b h k p page k r

pub index-requires : goal.index-requires
index-requires c = printer_within c.self.inside c.args.printer c.self.invariant (printer_of (core_view c.self.inside) c.args.self.now c.args.printer c.self.view_is c.requires)

pub index_mut-requires : goal.index_mut-requires
index_mut-requires c = printer_within c.self.inside c.args.printer c.self.invariant (printer_of (core_view c.self.inside) c.args.self.now c.args.printer c.self.view_is c.requires)

pub returns-then-not-is_out-clause-answer : goal.returns-then-not-is_out-clause-answer
returns-then-not-is_out-clause-answer c =
    let a = c.self.inside in
    let k = core_view a in
    let p = c.args.printer in
    let at = c.index.result.now in
    let ip = printer_of k c.args.self.now p c.self.view_is c.requires in
    stays k c.args.self.now (Same p c.args.page (Err (record { page = c.args.page }))) c.self.view_is
    (λ d b h l. (foreign d b h k l p ip at c.index.ensures c.args.page (λ q. absurd (cc (c.if-not-is_out.ensures.1 (at_is a at.out c.args.page c.page_size.result c.page_size.ensures.value q)))), refl, refl))

pub unreachable-requires : goal.unreachable-requires
unreachable-requires c =
    let a = c.self.inside in
    let k = core_view a in
    let p = c.args.printer in
    let at = c.index.result.now in
    let ip = printer_of k c.args.self.now p c.self.view_is c.requires in
    let r = c.self.invariant.reached in
    job_there Outlines r.0 r.1 k r.2 p ip at c.index.ensures c.args.page (out_is a at.out c.args.page c.page_size.result c.page_size.ensures.value (c.if-not-is_out.ensures.0 refl)) c.in_default.ensures.absent

few : (a : Inside) (p i : ℕ) (at : Printer) (page : HandedPage) → IsCore a → Seen a p i at page → (job_at a.book i).facts.back + 1 < 2 ^ 64
few a p i at page core s =
    let r = core.reached in
    back_few Outlines r.0 r.1 (core_view a) r.2 p s.printer at s.at-is page s.out i s.found core.ranges

-- what is known once the printer is idle: the page was out at it, and its job stands at the place that was found
seen : (c : After-index_mut) → Seen c.self.inside c.args.printer c.in-Some.i c.index_mut.result.now c.args.page
seen c =
    let a = c.self.inside in
    let p = c.args.printer in
    let first = seen_of a c.args.self.now p c.in-Some.i c.index.result.now c.args.page c.page_size.result c.self.view_is c.requires c.index.ensures c.page_size.ensures.value (c.if-not-is_out.ensures.0 refl) c.in-Some.ensures.found in
    seen_again a p c.in-Some.i c.index.result.now c.index_mut.result.now c.args.page c.self.invariant first c.index_mut.ensures.value

pub let_go-requires-clause-room : goal.let_go-requires-clause-room
let_go-requires-clause-room c =
    room c.self.inside c.args.printer c.in-Some.i c.index_mut.result.now c.args.page c.self.invariant (seen (goal.at.let_go-requires-clause-room c).After-index_mut)

pub come_again-requires-clause-few : goal.come_again-requires-clause-few
come_again-requires-clause-few c =
    few c.self.inside c.args.printer c.in-Some.i c.index_mut.result.now c.args.page c.self.invariant (seen (goal.at.come_again-requires-clause-few c).After-index_mut)

pub come_again-requires-clause-awaited : goal.come_again-requires-clause-awaited
come_again-requires-clause-awaited c =
    let s = seen (goal.at.come_again-requires-clause-awaited c).After-index_mut in
    let r = c.self.invariant.reached in
    back_awaited Outlines r.0 r.1 (core_view c.self.inside) r.2 c.args.printer s.printer c.index_mut.result.now s.at-is c.args.page s.out c.in-Some.i s.found (sym c.progress-said.ensures ∙ c.if-not-goes_on.ensures.0 refl) (sym c.comes_again.ensures ∙ c.if-comes_again.true)

pub come_again-requires-clause-room : goal.come_again-requires-clause-room
come_again-requires-clause-room c =
    let s = seen (goal.at.come_again-requires-clause-room c).After-index_mut in
    let r = c.self.invariant.reached in
    room_stored Outlines r.0 r.1 (core_view c.self.inside) r.2 c.args.printer s.printer c.index_mut.result.now s.at-is c.args.page s.out c.in-Some.i s.found

pub put_back-requires-clause-room : goal.put_back-requires-clause-room
put_back-requires-clause-room c =
    let n = room c.self.inside c.args.printer c.in-Some.i c.index_mut.result.now c.args.page c.self.invariant (seen (goal.at.put_back-requires-clause-room c).After-index_mut) in
    omega (arith, n)

pub give_back-requires-clause-held : goal.give_back-requires-clause-held
give_back-requires-clause-held c =
    let s = seen (goal.at.give_back-requires-clause-held c).After-index_mut in
    let r = c.self.invariant.reached in
    back_held Outlines r.0 r.1 (core_view c.self.inside) r.2 c.args.printer s.printer c.index_mut.result.now s.at-is c.args.page s.out c.in-Some.i s.found (sym c.progress-said.ensures ∙ c.if-not-goes_on.ensures.0 refl)

pub come_back-requires-clause-few : goal.come_back-requires-clause-few
come_back-requires-clause-few c =
    few c.self.inside c.args.printer c.in-Some.i c.index_mut.result.now c.args.page c.self.invariant (seen (goal.at.come_back-requires-clause-few c).After-index_mut)

-- the page was the last one of its job, which is gone
module _ (c : After-let_go) (s : Seen c.self.inside c.args.printer c.in-Some.i c.index_mut.result.now c.args.page) where
  abbrev after_gone : Kept
  after_gone = core_view (left c.self.inside c.args.printer c.let_go.new.pool c.let_go.new.book c.let_go.new.table (idle_printer c.index_mut.result.now))

  gone : IsRight (core_view c.self.inside) (Answer c.args.printer c.args.page (Ok c.progress-said.result) after_gone (core_view c.self.inside))
  gone d b h l =
      let a = c.self.inside in
      let e = c.let_go.ensures in
      let n = length (every_page (job_at a.book c.in-Some.i).chain.files) in
      subst (λ (z : Kept). Prints d b h (core_view a) c.args.printer c.args.page z (Ok c.progress-said.result))
      (view_left a c.args.printer c.let_go.new.pool (record a.pool { free = a.pool.free + n + 1 }) c.let_go.new.book (record a.book { jobs = remove a.book.jobs c.in-Some.i; stored = a.book.stored - n })
      c.let_go.new.table (closed a.table c.in-Some.i) (idle_printer c.index_mut.result.now) e.pool e.book e.table)
      (prints_gone d b h (core_view a) l c.args.printer s.printer c.index_mut.result.now s.at-is c.args.page s.out c.in-Some.i s.found c.progress-said.result (sym c.progress-said.ensures) (λ q. absurd (cc (c.if-not-goes_on.ensures.1 q))))

-- it comes again for a later place
module _ (c : After-come_again) (s : Seen c.self.inside c.args.printer c.in-Some.i c.index_mut.result.now c.args.page) where
  abbrev after_again : Kept
  after_again = core_view (left c.self.inside c.args.printer c.self.inside.pool c.come_again.new.self c.self.inside.table (idle_printer c.index_mut.result.now))

  again : IsRight (core_view c.self.inside) (Answer c.args.printer c.args.page (Ok c.progress-said.result) after_again (core_view c.self.inside))
  again d b h l =
      let a = c.self.inside in
      let i = c.in-Some.i in
      let going = c.if-not-goes_on.ensures.0 refl in
      let book = c.come_again.ensures ∙ ap (λ (w : Page). record (with_job a.book i (again_job w (job_at a.book i))) { stored = a.book.stored + 1 }) c.into_page.ensures in
      subst (λ (z : Kept). Prints d b h (core_view a) c.args.printer c.args.page z (Ok c.progress-said.result))
      (view_left a c.args.printer a.pool a.pool c.come_again.new.self (record (with_job a.book i (again_job c.args.page.page (job_at a.book i))) { stored = a.book.stored + 1 }) a.table a.table (idle_printer c.index_mut.result.now) refl book refl)
      (subst (λ (y : Progress). Prints d b h (core_view a) c.args.printer c.args.page (again_core (core_view a) c.args.printer i c.index_mut.result.now c.args.page) (Ok y)) (sym going)
      (prints_again d b h (core_view a) l c.args.printer s.printer c.index_mut.result.now s.at-is c.args.page s.out i s.found (sym c.progress-said.ensures ∙ going) (sym c.comes_again.ensures ∙ c.if-comes_again.true)))

-- it goes to the pool, and its job goes on
module _ (c : After-come_back) (s : Seen c.self.inside c.args.printer c.in-Some.i c.index_mut.result.now c.args.page) where
  abbrev after_last : Kept
  after_last = core_view (left c.self.inside c.args.printer c.put_back.new.self c.come_back.new.self c.give_back.new.self (idle_printer c.index_mut.result.now))

  last : IsRight (core_view c.self.inside) (Answer c.args.printer c.args.page (Ok c.progress-said.result) after_last (core_view c.self.inside))
  last d b h l =
      let a = c.self.inside in
      let i = c.in-Some.i in
      let going = c.if-not-goes_on.ensures.0 refl in
      subst (λ (z : Kept). Prints d b h (core_view a) c.args.printer c.args.page z (Ok c.progress-said.result))
      (view_left a c.args.printer c.put_back.new.self (record a.pool { free = a.pool.free + 1 }) c.come_back.new.self (with_job a.book i (told back_facts (job_at a.book i))) c.give_back.new.self (given_back a.table i 0 1)
      (idle_printer c.index_mut.result.now) c.put_back.ensures c.come_back.ensures c.give_back.ensures)
      (subst (λ (y : Progress). Prints d b h (core_view a) c.args.printer c.args.page (back_core (core_view a) c.args.printer i c.index_mut.result.now) (Ok y)) (sym going)
      (prints_last d b h (core_view a) l c.args.printer s.printer c.index_mut.result.now s.at-is c.args.page s.out i s.found (sym c.progress-said.ensures ∙ going) (sym c.comes_again.ensures ∙ c.if-comes_again.false)))

pub invariant_of-self : goal.invariant_of-self
invariant_of-self c =
    let x = goal.at.invariant_of-self c in
    let r = c.self.invariant.reached in
    let got = gone x.After-let_go (seen x.After-index_mut) Outlines r.0 r.1 r.2 in
    still c.self.inside _ c.self.invariant refl refl refl (r.0, AtPrinter c.args.printer got.0 (Printed (progress_seen c.progress-said.result)) ∷ r.1, got.3 got.1.3)

pub returns-then-not-goes_on-clause-answer : goal.returns-then-not-goes_on-clause-answer
returns-then-not-goes_on-clause-answer c =
    let x = goal.at.returns-then-not-goes_on-clause-answer c in
    let s = seen x.After-index_mut in
    subst (λ (k : Kept). IsRight k (Answer c.args.printer c.args.page (Ok c.progress-said.result) (after_gone x.After-let_go s) k)) c.self.view_is (gone x.After-let_go s)

pub invariant_of-self-then-comes_again : goal.invariant_of-self-then-comes_again
invariant_of-self-then-comes_again c =
    let x = goal.at.invariant_of-self-then-comes_again c in
    let r = c.self.invariant.reached in
    let got = again x.After-come_again (seen x.After-index_mut) Outlines r.0 r.1 r.2 in
    still c.self.inside _ c.self.invariant refl refl refl (r.0, AtPrinter c.args.printer got.0 (Printed (progress_seen c.progress-said.result)) ∷ r.1, got.3 got.1.3)

pub returns-then-comes_again-clause-answer : goal.returns-then-comes_again-clause-answer
returns-then-comes_again-clause-answer c =
    let x = goal.at.returns-then-comes_again-clause-answer c in
    let s = seen x.After-index_mut in
    subst (λ (k : Kept). IsRight k (Answer c.args.printer c.args.page (Ok c.progress-said.result) (after_again x.After-come_again s) k)) c.self.view_is (again x.After-come_again s)

pub invariant_of-self-2 : goal.invariant_of-self-2
invariant_of-self-2 c =
    let x = goal.at.invariant_of-self-2 c in
    let r = c.self.invariant.reached in
    let got = last x.After-come_back (seen x.After-index_mut) Outlines r.0 r.1 r.2 in
    still c.self.inside _ c.self.invariant refl refl refl (r.0, AtPrinter c.args.printer got.0 (Printed (progress_seen c.progress-said.result)) ∷ r.1, got.3 got.1.3)

pub returns-clause-answer : goal.returns-clause-answer
returns-clause-answer c =
    let x = goal.at.returns-clause-answer c in
    let s = seen x.After-index_mut in
    subst (λ (k : Kept). IsRight k (Answer c.args.printer c.args.page (Ok c.progress-said.result) (after_last x.After-come_back s) k)) c.self.view_is (last x.After-come_back s)

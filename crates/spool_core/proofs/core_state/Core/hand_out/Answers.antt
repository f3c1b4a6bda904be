use Rattle.std.proofs.Common.{◌≡◌, ◌==◌, ℕ, ◌-◌, ◌<◌, List, false, length, get_or, set, refl, ap, subst, sym, ◌∙◌}
use Rattle.std.specs.Prelude.{Some, cond, slice_get}
use Rattle.counts.specs.Amounts.{amount}
use Rattle.claims.specs.Claims.{Claims, row_at}
use Rattle.claims.specs.Changes.{granted}
use Rattle.page_chain.specs.declared.place.Place.{Place}
use Rattle.held_jobs.specs.Jobs.{Facts}
use Rattle.held_jobs.specs.Books.{Books, job_at}
use Rattle.held_jobs.specs.Turns.{TurnAt, facts_in}
use Rattle.account.specs.declared.entry.Sheet.{Sheet as SheetOut}
use Rattle.config_values.specs.Config.{IsPrinter}
use Rattle.spool_history.specs.Base.{Base}
use Rattle.spool_history.specs.Events.{Event}
use Rattle.spool_calls.specs.declared.printer.Printer.{Printer}
use Rattle.spool_calls.specs.declared.handed.HandedPage.{HandedPage}
use Rattle.spool_calls.specs.declared.answers.Next.TheVariants as next
use Rattle.spool_calls.specs.Looks.{Detail, What}
use Rattle.spool_calls.specs.Looks.Detail.{Outlines}
use Rattle.spool_calls.specs.Kept.{Kept, sheet_out}
use Rattle.spool_calls.specs.Calls.{Hands, IsRight}
use Rattle.step_lemmas.proofs.Cores.Handing.{Waits, free_here, hand_few, hand_ready, handed_core, hands_page, kind_there, need_here}
use Rattle.spool_core.specs.declared.core_state.Core.TheInside.{Inside}
use Rattle.spool_core.specs.Inside.{core_view}
use Rattle.spool_core.specs.Due.{IsTurn}
use Rattle.spool_core.proofs.Cores.{printer_of, printer_within, still}
use Rattle.spool_core.proofs.core_state.Core.hand_out.Goals.{After-handed-handed, After-index-at, After-sheet}
use Rattle.spool_core.proofs.core_state.Core.hand_out.Goals as goal

abbrev Answer : ℕ → HandedPage → Kept → Kept → (d : Detail) → Base → List (Event (What d)) → Type 0
Answer p page new k d b h = Hands d b h k p new (next.Handed page)

pub index-at-requires : goal.index-at-requires
index-at-requires c = printer_within c.self.inside c.args.printer c.self.invariant (printer_of (core_view c.self.inside) c.args.self.now c.args.printer c.self.view_is c.requires.printer)

pub index_mut-requires : goal.index_mut-requires
index_mut-requires c = printer_within c.self.inside c.args.printer c.self.invariant (printer_of (core_view c.self.inside) c.args.self.now c.args.printer c.self.view_is c.requires.printer)

-- what was looked at before the page is taken
record Looked (a : Inside) (p i : ℕ) (at : Printer) (place : Place) : Type 0 where
  printer : IsPrinter a.config p
  at-is : at ≡ get_or a.printers.items (p - 1) at
  waits : Waits (core_view a) at
  turn : TurnAt (facts_in a.book.jobs) at.queue at.began (Some i)
  first : slice_get (job_at a.book i).chain.places 0 ≡ Some place

looked : (c : After-index-at) → Looked c.self.inside c.args.printer c.args.i c.index-at.result.now c.args.place
looked c =
    let t = subst (λ (z : Kept). IsTurn z c.args.printer c.args.i c.args.place) (sym c.self.view_is) c.requires.due c.index-at.result.now c.index-at.ensures in
    record {
      printer = printer_of (core_view c.self.inside) c.args.self.now c.args.printer c.self.view_is c.requires.printer;
      at-is = c.index-at.ensures;
      waits = record { open' = t.open'; runs = t.runs; idle = t.idle };
      turn = t.turn;
      first = t.first;
    }

-- the job's printer is there, and is free and needed where it has none yet
module _ (c : After-handed-handed) (o : Looked c.self.inside c.args.printer c.args.i c.index-at.result.now c.args.place) where
  abbrev table : Claims
  table = c.self.inside.table

  abbrev q : ℕ
  q = c.queue-queue.result

  of_queue : q ≡ (job_at c.self.inside.book c.args.i).facts.queue
  of_queue = c.queue-queue.ensures ∙ ap (λ (y : Facts). y.queue) c.job-found.ensures

  of_handed : c.handed-handed.result ≡ (job_at c.self.inside.book c.args.i).facts.handed
  of_handed = c.handed-handed.ensures ∙ ap (λ (y : Facts). y.handed) c.job-found.ensures

  there : q < length table.capacity
  there =
      let r = c.self.invariant.reached in
      subst (λ (m : ℕ). m < length table.capacity) (sym of_queue) (kind_there Outlines r.0 r.1 (core_view c.self.inside) r.2 c.args.printer o.printer c.index-at.result.now o.at-is o.waits c.args.i o.turn c.args.place o.first)

  free : c.handed-handed.result ≡ 0 → 0 < amount table.free q
  free z =
      let r = c.self.invariant.reached in
      subst (λ (m : ℕ). 0 < amount table.free m) (sym of_queue) (free_here Outlines r.0 r.1 (core_view c.self.inside) r.2 c.args.printer o.printer c.index-at.result.now o.at-is o.waits c.args.i o.turn c.args.place o.first (sym of_handed ∙ z))

  needed : c.handed-handed.result ≡ 0 → 0 < amount (row_at table.rows c.args.i).need q
  needed z =
      let r = c.self.invariant.reached in
      subst (λ (m : ℕ). 0 < amount (row_at table.rows c.args.i).need m) (sym of_queue) (need_here Outlines r.0 r.1 (core_view c.self.inside) r.2 c.args.printer o.printer c.index-at.result.now o.at-is o.waits c.args.i o.turn c.args.place o.first (sym of_handed ∙ z))

pub lend_printer-requires-clause-kind : goal.lend_printer-requires-clause-kind
lend_printer-requires-clause-kind c = let x = goal.at.lend_printer-requires-clause-kind c in there x.After-handed-handed (looked x.After-index-at)

pub lend_printer-requires-clause-free : goal.lend_printer-requires-clause-free
lend_printer-requires-clause-free c = let x = goal.at.lend_printer-requires-clause-free c in free x.After-handed-handed (looked x.After-index-at)

pub lend_printer-requires-clause-needed : goal.lend_printer-requires-clause-needed
lend_printer-requires-clause-needed c = let x = goal.at.lend_printer-requires-clause-needed c in needed x.After-handed-handed (looked x.After-index-at)

pub hand-requires-clause-ready : goal.hand-requires-clause-ready
hand-requires-clause-ready c =
    let o = looked (goal.at.hand-requires-clause-ready c).After-index-at in
    let r = c.self.invariant.reached in
    hand_ready Outlines r.0 r.1 (core_view c.self.inside) r.2 c.args.printer o.printer c.index-at.result.now o.at-is o.waits c.args.i o.turn c.args.place o.first

pub hand-requires-clause-few : goal.hand-requires-clause-few
hand-requires-clause-few c =
    let o = looked (goal.at.hand-requires-clause-few c).After-index-at in
    let r = c.self.invariant.reached in
    hand_few Outlines r.0 r.1 (core_view c.self.inside) r.2 c.args.printer o.printer c.index-at.result.now o.at-is o.waits c.args.i o.turn c.args.place o.first c.self.invariant.ranges

-- what the call answers, and leaves
module _ (c : After-sheet) (o : Looked c.self.inside c.args.printer c.args.i c.index-at.result.now c.args.place) where
  abbrev a : Inside
  a = c.self.inside

  abbrev at : Printer
  at = c.index-at.result.now

  abbrev page : HandedPage
  page = record { job = c.number-job.result; place = c.handed-handed.result; file = c.args.place.file; number = c.args.place.number; page = c.hand.result }

  abbrev with_parts : Books → Claims → SheetOut → Kept
  with_parts book table out = record (core_view a) {
    book = book;
    table = table;
    printers = set a.printers.items (c.args.printer - 1) (record { queue = at.queue; out = Some out; began = Some c.number-job.result; stopped = false });
  }

  abbrev left : Kept
  left = with_parts c.hand.new.self c.lend_printer.new.table c.sheet.result

  queue : c.queue-queue.result ≡ (job_at a.book c.args.i).facts.queue
  queue = c.queue-queue.ensures ∙ ap (λ (y : Facts). y.queue) c.job-found.ensures

  handed : c.handed-handed.result ≡ (job_at a.book c.args.i).facts.handed
  handed = c.handed-handed.ensures ∙ ap (λ (y : Facts). y.handed) c.job-found.ensures

  is_left : handed_core (core_view a) c.args.printer c.args.i at page ≡ left
  is_left =
      let f : Facts = (job_at a.book c.args.i).facts in
      let table : cond (f.handed == 0) (granted a.table c.args.i f.queue) a.table ≡ c.lend_printer.new.table =
      ap (λ (m : ℕ). cond (m == 0) (granted a.table c.args.i f.queue) a.table) (sym handed)
      ∙ (ap (λ (m : ℕ). cond (c.handed-handed.result == 0) (granted a.table c.args.i m) a.table) (sym queue) ∙ sym c.lend_printer.ensures) in
      let t = cond (f.handed == 0) (granted a.table c.args.i f.queue) a.table in
      ap (λ (z : Books). with_parts z t (sheet_out page)) (sym c.hand.ensures.book)
      ∙ (ap (λ (z : Claims). with_parts c.hand.new.self z (sheet_out page)) table ∙ ap (with_parts c.hand.new.self c.lend_printer.new.table) (sym c.sheet.ensures))

  hands : IsRight (core_view a) (Answer c.args.printer page left (core_view a))
  hands d b h l =
      subst (λ (z : Kept). Hands d b h (core_view a) c.args.printer z (next.Handed page)) is_left
      (hands_page d b h (core_view a) l c.args.printer o.printer at o.at-is o.waits c.args.i o.turn c.args.place o.first page (record {
        job = c.number-job.ensures ∙ ap (λ (y : Facts). y.number) c.job-found.ensures;
        place' = handed;
        file = refl;
        number = refl;
        whole = c.hand.ensures.page;
        size' = c.hand.ensures.size;
      }))

pub invariant_of-self : goal.invariant_of-self
invariant_of-self c =
    let x = goal.at.invariant_of-self c in
    let r = c.self.invariant.reached in
    let after = (hands x.After-sheet (looked x.After-index-at) Outlines r.0 r.1 r.2).1 in
    still c.self.inside _ c.self.invariant refl refl refl (r.0, _, after)

pub returns-clause-answer : goal.returns-clause-answer
returns-clause-answer c =
    let x = goal.at.returns-clause-answer c in
    let o = looked x.After-index-at in
    subst (λ (k : Kept). IsRight k (Answer c.args.printer (page x.After-sheet o) (left x.After-sheet o) k)) c.self.view_is (hands x.After-sheet o)

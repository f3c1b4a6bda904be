use Rattle.std.proofs.Common.{◌≡◌, ℕ, zero, suc, ◌+◌, ◌-◌, List, [], ◌∷◌, length, set, refl, ap, subst, sym, ◌∙◌, arith}
use Rattle.std.specs.Prelude.{Result, Ok, Err, Option, remove}
use Rattle.page_pool.specs.Page.{Page, Pages}
use Rattle.held_jobs.specs.Jobs.{Facts, HeldJob}
use Rattle.held_jobs.specs.Books.{Books, job_at}
use Rattle.spool_history.specs.Base.{Base}
use Rattle.spool_history.specs.Events.{Event}
use Rattle.spool_calls.specs.Looks.{Detail, What}
use Rattle.spool_calls.specs.Looks.Detail.{Outlines}
use Rattle.spool_calls.specs.Kept.{Kept}
use Rattle.spool_calls.specs.Calls.{IsRight}
use Rattle.step_lemmas.proofs.Cores.Leaving.{Found}
use Rattle.spool_core.specs.declared.core_state.Core.TheInside.{Inside}
use Rattle.spool_core.specs.Inside.{core_view}
use Rattle.spool_core.proofs.Cores.{found, parts, stays, still}
use Rattle.page_chain.specs.Files.{every_page}
use Rattle.held_jobs.specs.Moves.{drained_job}
use Rattle.claims.specs.Changes.{closed}
use Rattle.spool_calls.specs.Tickets.{MayAbort, count_of}
use Rattle.spool_calls.specs.declared.answers.ReturnedTicket.{ReturnedTicket}
use Rattle.spool_calls.specs.Calls.{Aborts}
use Rattle.step_lemmas.proofs.Cores.Leaving.{every_counted, jobs_len, one_stored}
use Rattle.step_lemmas.proofs.Cores.Receiving.{pool_room}
use Rattle.step_lemmas.proofs.Cores.Aborting.{abort_done, abort_none, abort_refused, aborted_room}
use Rattle.spool_core.proofs.core_state.Core.abort.Goals.{After-may_abort, After-remove}
use Rattle.spool_core.proofs.core_state.Core.abort.Goals as goal

abbrev Answer : ℕ → Option Page → Result (Unit {0}) ReturnedTicket → Kept → Kept → (d : Detail) → Base → List (Event (What d)) → Type 0
Answer job ticket r new k d b h = Aborts d b h k job ticket new r

abbrev Same : ℕ → Option Page → Result (Unit {0}) ReturnedTicket → Kept → (d : Detail) → Base → List (Event (What d)) → Type 0
Same job ticket r k d b h = Aborts d b h k job ticket k r

pub returns-in_default-clause-answer : goal.returns-in_default-clause-answer
returns-in_default-clause-answer c =
    stays (core_view c.self.inside) c.args.self.now (Same c.args.job c.args.ticket (Err (record { ticket = c.args.ticket }))) c.self.view_is
    (λ d b h l. abort_none d b h (core_view c.self.inside) c.args.job c.args.ticket (record { ticket = c.args.ticket }) l c.in_default.ensures.absent refl)

-- the job stands at its place, and the test speaks of it
module _ (c : After-may_abort) where
  abbrev a : Inside
  a = c.self.inside

  place : Found (core_view a) c.args.job c.in-Some.i
  place = found a c.args.job c.in-Some.i c.in-Some.ensures.found

  asked : MayAbort (job_at a.book c.in-Some.i).facts a.config.page_size c.args.ticket → MayAbort c.job.result.now c.page_size-page_size.result c.args.ticket
  asked m = subst (λ (y : Facts). MayAbort y c.page_size-page_size.result c.args.ticket) (sym c.job.ensures)
      (subst (λ (n : ℕ). MayAbort (job_at a.book c.in-Some.i).facts n c.args.ticket) (sym c.page_size-page_size.ensures.value) m)

  may : MayAbort c.job.result.now c.page_size-page_size.result c.args.ticket → MayAbort (job_at a.book c.in-Some.i).facts a.config.page_size c.args.ticket
  may m = subst (λ (y : Facts). MayAbort y a.config.page_size c.args.ticket) c.job.ensures (subst (λ (n : ℕ). MayAbort c.job.result.now n c.args.ticket) c.page_size-page_size.ensures.value m)

pub returns-then-not-may_abort-clause-answer : goal.returns-then-not-may_abort-clause-answer
returns-then-not-may_abort-clause-answer c =
    let x = (goal.at.returns-then-not-may_abort-clause-answer c).After-may_abort in
    stays (core_view c.self.inside) c.args.self.now (Same c.args.job c.args.ticket (Err (record { ticket = c.args.ticket }))) c.self.view_is
    (λ d b h l. abort_refused d b h (core_view c.self.inside) l c.args.job c.in-Some.i (place x) c.args.ticket (record { ticket = c.args.ticket })
    (λ q. absurd (cc (c.if-not-may_abort.ensures.1 (asked x q)))) refl)

pub drain-requires-clause-room : goal.drain-requires-clause-room
drain-requires-clause-room c =
    let k = core_view c.self.inside in
    let r = c.self.invariant.reached in
    let n = jobs_len Outlines r.0 r.1 k r.2 in
    let lt = c.in-Some.ensures.found.0 in
    let e = every_counted Outlines r.0 r.1 k c.in-Some.i r.2 lt in
    let o = one_stored Outlines r.0 r.1 k c.in-Some.i r.2 (omega (arith, n, lt)) in
    pool_room Outlines r.0 r.1 k r.2 (length (every_page (job_at c.self.inside.book c.in-Some.i).chain.files)) (omega (arith, e, o))

pub take_ticket-requires-clause-room : goal.take_ticket-requires-clause-room
take_ticket-requires-clause-room c =
    let x = (goal.at.take_ticket-requires-clause-room c).After-may_abort in
    let k = core_view c.self.inside in
    let r = c.self.invariant.reached in
    let e = every_counted Outlines r.0 r.1 k c.in-Some.i r.2 c.in-Some.ensures.found.0 in
    let all = aborted_room Outlines r.0 r.1 k r.2 c.args.job c.in-Some.i (place x) c.args.ticket (may x (c.if-not-may_abort.ensures.0 refl)) in
    let free = ap (λ (p : Pages). p.free) c.drain.ensures.pool in
    let pages = ap (λ (p : Pages). p.pages) c.drain.ensures.pool in
    let n = c.drain.ensures.count in
    omega (arith, e, all, free, pages, n)

remove_set : {X : Type 0} (xs : List X) (i : ℕ) (x : X) → remove (set xs i x) i ≡ remove xs i
remove_set [] i x = refl
remove_set (y ∷ xs) zero x = refl
remove_set {X} (y ∷ xs) (suc i) x = ap (λ (l : List X). y ∷ l) (remove_set xs i x)

-- the job is gone, and its pages are free
gone : (c : After-remove) → MayAbort (job_at c.self.inside.book c.in-Some.i).facts c.self.inside.config.page_size c.args.ticket
    → let new : Kept = record (core_view c.self.inside) { pool = c.take_ticket.new.pool; book = c.remove.new.self; table = c.close_row.new.self } in
    IsRight (core_view c.self.inside) (Answer c.args.job c.args.ticket (Ok tt) new (core_view c.self.inside))
gone c may d b h l =
    let a = c.self.inside in
    let k = core_view a in
    let i = c.in-Some.i in
    let n = c.drain.result in
    let f = found a c.args.job i c.in-Some.ensures.found in
    let pool : c.take_ticket.new.pool ≡ record a.pool { free = a.pool.free + n + count_of c.args.ticket } = c.take_ticket.ensures ∙ ap (λ (z : Pages). record z { free = z.free + count_of c.args.ticket }) c.drain.ensures.pool in
    let book : c.remove.new.self ≡ record a.book { jobs = remove a.book.jobs i; stored = a.book.stored - n } =
    c.remove.ensures ∙ (ap (λ (z : Books). record z { jobs = remove z.jobs i }) c.drain.ensures.book
    ∙ ap (λ (l : List HeldJob). record a.book { jobs = l; stored = a.book.stored - n }) (remove_set a.book.jobs i (drained_job (job_at a.book i)))) in
    subst (λ (z : Kept). Aborts d b h k c.args.job c.args.ticket z (Ok tt))
    (parts k (record a.pool { free = a.pool.free + n + count_of c.args.ticket }) c.take_ticket.new.pool (record a.book { jobs = remove a.book.jobs i; stored = a.book.stored - n }) c.remove.new.self (closed a.table i) c.close_row.new.self
    pool book c.close_row.ensures)
    (abort_done d b h k l c.args.job i f c.args.ticket n may (c.drain.ensures.count ∙ every_counted d b h k i l f.there))

pub invariant_of-self : goal.invariant_of-self
invariant_of-self c =
    let x = goal.at.invariant_of-self c in
    let r = c.self.invariant.reached in
    still c.self.inside _ c.self.invariant refl refl refl (r.0, _, (gone x.After-remove (may x.After-may_abort (c.if-not-may_abort.ensures.0 refl)) Outlines r.0 r.1 r.2).1)

pub returns-clause-answer : goal.returns-clause-answer
returns-clause-answer c =
    let x = goal.at.returns-clause-answer c in
    let new : Kept = record (core_view c.self.inside) { pool = c.take_ticket.new.pool; book = c.remove.new.self; table = c.close_row.new.self } in
    subst (λ (k : Kept). IsRight k (Answer c.args.job c.args.ticket (Ok tt) new k)) c.self.view_is (gone x.After-remove (may x.After-may_abort (c.if-not-may_abort.ensures.0 refl)))

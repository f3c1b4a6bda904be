use Rattle.std.proofs.Common.{◌≡◌, ℕ, ◌+◌, ◌-◌, ◌<◌, ◌^◌, List, length, refl, ap, subst, sym, ◌∙◌}
use Rattle.std.specs.Prelude.{Result, Err}
use Rattle.page_pool.specs.Page.{Page}
use Rattle.held_jobs.specs.Jobs.{Facts, last_size}
use Rattle.held_jobs.specs.Books.{Books, job_at}
use Rattle.spool_history.specs.Base.{Base}
use Rattle.spool_history.specs.Events.{Event}
use Rattle.spool_calls.specs.Looks.{Detail, What}
use Rattle.spool_calls.specs.Looks.Detail.{Outlines}
use Rattle.spool_calls.specs.Kept.{Kept}
use Rattle.spool_calls.specs.Calls.{IsRight}
use Rattle.step_lemmas.proofs.Cores.Leaving.{Found}
use Rattle.spool_core.specs.declared.core_state.Core.TheInside.{Inside}
use Rattle.spool_core.specs.Inside.{core_view}
use Rattle.spool_core.proofs.Cores.{found, stays, still}
use Rattle.held_jobs.specs.Moves.{Awaits}
use Rattle.spool_calls.specs.declared.answers.ReturnedPage.{ReturnedPage}
use Rattle.spool_calls.specs.Calls.{Puts, PutsAs}
use Rattle.step_lemmas.proofs.Cores.Filing.{can_put, put_done, put_none, put_refused}
use Rattle.spool_core.proofs.core_state.Core.put_sized.Goals.{After-awaits, After-put}
use Rattle.spool_core.proofs.core_state.Core.put_sized.Goals as goal

abbrev Same : ℕ → Page → Result (Unit {0}) ReturnedPage → Kept → (d : Detail) → Base → List (Event (What d)) → Type 0
Same job page r k d b h = Puts d b h k job page k r

pub returns-in_default-clause-refused : goal.returns-in_default-clause-refused
returns-in_default-clause-refused c =
    stays (core_view c.self.inside) c.args.self.now (Same c.args.job c.args.page (Err (record { page = c.args.page }))) c.self.view_is
    (λ d b h l. put_none d b h (core_view c.self.inside) c.args.job c.args.page (record { page = c.args.page }) l c.in_default.ensures.absent refl)

-- the job stands at its place, and what it awaits is told in the words of the page and the configuration
module _ (c : After-awaits) where
  abbrev a : Inside
  a = c.self.inside

  place : Found (core_view a) c.args.job c.in-Some.i
  place = found a c.args.job c.in-Some.i c.in-Some.ensures.found

  size : c.from-page_size.result ≡ a.config.page_size
  size = c.from-page_size.ensures ∙ c.page_size.ensures.value

  awaited : Awaits (job_at a.book c.in-Some.i) c.len.result c.from-page_size.result → Awaits (job_at a.book c.in-Some.i) (length c.args.page.octets) a.config.page_size
  awaited w = subst (λ (z : ℕ). Awaits (job_at a.book c.in-Some.i) (length c.args.page.octets) z) size (subst (λ (n : ℕ). Awaits (job_at a.book c.in-Some.i) n c.from-page_size.result) c.len.ensures.len w)

  unawaited : Awaits (job_at a.book c.in-Some.i) (length c.args.page.octets) a.config.page_size → Awaits (job_at a.book c.in-Some.i) c.len.result c.from-page_size.result
  unawaited w = subst (λ (n : ℕ). Awaits (job_at a.book c.in-Some.i) n c.from-page_size.result) (sym c.len.ensures.len) (subst (λ (z : ℕ). Awaits (job_at a.book c.in-Some.i) (length c.args.page.octets) z) (sym size) w)

  can : Awaits (job_at a.book c.in-Some.i) c.len.result c.from-page_size.result → (a.book.stored < a.book.pages) × ((last_size (job_at a.book c.in-Some.i).facts.files).pages + 1 < 2 ^ 64)
  can w =
      let r = c.self.invariant.reached in
      let n = can_put Outlines r.0 r.1 (core_view a) r.2 c.args.job c.in-Some.i place c.args.page c.self.invariant.ranges (awaited w) in
      (n.room, n.few)

pub returns-then-not-awaits-clause-refused : goal.returns-then-not-awaits-clause-refused
returns-then-not-awaits-clause-refused c =
    let x = (goal.at.returns-then-not-awaits-clause-refused c).After-awaits in
    stays (core_view c.self.inside) c.args.self.now (Same c.args.job c.args.page (Err (record { page = c.args.page }))) c.self.view_is
    (λ d b h l. put_refused d b h (core_view c.self.inside) l c.args.job c.in-Some.i (place x) c.args.page (record { page = c.args.page })
    (λ q. absurd (cc (c.if-not-awaits.ensures.1 (unawaited x q)))) refl)

pub put-requires-clause-room : goal.put-requires-clause-room
put-requires-clause-room c = (can (goal.at.put-requires-clause-room c).After-awaits (c.if-not-awaits.ensures.0 refl)).0

pub put-requires-clause-few : goal.put-requires-clause-few
put-requires-clause-few c = (can (goal.at.put-requires-clause-few c).After-awaits (c.if-not-awaits.ensures.0 refl)).1

-- it was put as the page of this number of this file, as they were read of the job
module _ (c : After-put) (w : Awaits (job_at c.self.inside.book c.in-Some.i) (length c.args.page.octets) c.self.inside.config.page_size) where
  abbrev k : Kept
  k = core_view c.self.inside

  abbrev new : Kept
  new = record k { book = c.put.new.self }

  abbrev Answer : Kept → Type 0
  Answer z = IsRight z (λ d b h. PutsAs d b h z c.args.job c.args.page new c.next_page-next.result.file c.next_page-next.result.number)

  puts : Answer k
  puts d b h l =
      let size : c.args.page.page_size ≡ k.config.page_size = subst (λ (z : Kept). c.args.page.page_size ≡ z.config.page_size) (sym c.self.view_is) c.requires in
      let file = c.next_page-next.ensures.0 ∙ ap (λ (y : Facts). length y.files - 1) c.job.ensures in
      let number = c.next_page-next.ensures.1 ∙ ap (λ (y : Facts). (last_size y.files).pages) c.job.ensures in
      subst (λ (n : ℕ). PutsAs d b h k c.args.job c.args.page new n c.next_page-next.result.number) (sym file)
      (subst (λ (n : ℕ). PutsAs d b h k c.args.job c.args.page new (length (job_at k.book c.in-Some.i).facts.files - 1) n) (sym number)
      (subst (λ (z : Books). PutsAs d b h k c.args.job c.args.page (record k { book = z }) (length (job_at k.book c.in-Some.i).facts.files - 1) (last_size (job_at k.book c.in-Some.i).facts.files).pages) (sym c.put.ensures)
      (put_done d b h k l c.args.job c.in-Some.i (found c.self.inside c.args.job c.in-Some.i c.in-Some.ensures.found) c.args.page w size)))

pub invariant_of-self : goal.invariant_of-self
invariant_of-self c =
    let x = goal.at.invariant_of-self c in
    let r = c.self.invariant.reached in
    still c.self.inside _ c.self.invariant refl refl refl (r.0, _, (puts x.After-put (awaited x.After-awaits (c.if-not-awaits.ensures.0 refl)) Outlines r.0 r.1 r.2).1)

pub returns-clause-put : goal.returns-clause-put
returns-clause-put c =
    let x = goal.at.returns-clause-put c in
    let w = awaited x.After-awaits (c.if-not-awaits.ensures.0 refl) in
    subst (Answer x.After-put w) c.self.view_is (puts x.After-put w)

use Rattle.std.proofs.Common.{◌≡◌, ◌≢◌, ℕ, ◌-◌, ◌<◌, List, refl, ap, subst, sym, ◌∙◌, arith}
use Rattle.std.specs.Prelude.{Result, Ok, Err, Bool, true, false, not, IsTrue}
use Rattle.counts.specs.Amounts.{amount}
use Rattle.claims.specs.Claims.{row_at}
use Rattle.claims.specs.Changes.{granted}
use Rattle.ordered_safety.specs.Room.{Room}
use Rattle.page_pool.specs.Page.{Page, Pages}
use Rattle.held_jobs.specs.Jobs.{Facts}
use Rattle.held_jobs.specs.Moves.{lent_facts, told}
use Rattle.held_jobs.specs.Books.{job_at, with_job}
use Rattle.config_values.specs.Config.{limit_of}
use Rattle.spool_history.specs.Base.{Base}
use Rattle.spool_history.specs.Events.{Event}
use Rattle.lpd_values.specs.declared.refusal.Refusal.{Refusal}
use Rattle.lpd_values.specs.declared.refusal.Refusal.TheVariants.{NotOpen, OverClaim}
use Rattle.spool_calls.specs.declared.answers.Asked.{Asked}
use Rattle.spool_calls.specs.declared.answers.Asked.TheVariants.{Page as Page', Later}
use Rattle.spool_calls.specs.Looks.{Detail, What}
use Rattle.spool_calls.specs.Looks.Detail.{Outlines}
use Rattle.spool_calls.specs.Kept.{Kept}
use Rattle.spool_calls.specs.Calls.{Asks, IsRight}
use Rattle.step_lemmas.proofs.Cores.Leaving.{Found}
use Rattle.step_lemmas.proofs.Cores.Asking.{ask_none, ask_not_open, ask_over, ask_none_free, ask_not_safe, ask_page, row_needs}
use Rattle.spool_core.specs.declared.core_state.Core.TheInside.{Inside}
use Rattle.spool_core.specs.Inside.{core_view}
use Rattle.spool_core.proofs.Cores.{found, parts, stays, still}
use Rattle.spool_core.proofs.core_state.Core.ask.Goals.{After-get, In-Some-take}
use Rattle.spool_core.proofs.core_state.Core.ask.Goals as goal

abbrev Answer : ℕ → Result Asked Refusal → Kept → Kept → (d : Detail) → Base → List (Event (What d)) → Type 0
Answer job r new k d b h = Asks d b h k job new r

abbrev Same : ℕ → Result Asked Refusal → Kept → (d : Detail) → Base → List (Event (What d)) → Type 0
Same job r k d b h = Asks d b h k job k r

pub returns-in_default-clause-answer : goal.returns-in_default-clause-answer
returns-in_default-clause-answer c =
    stays (core_view c.self.inside) c.args.self.now (Same c.args.job (Err NotOpen)) c.self.view_is
    (λ d b h l. ask_none d b h (core_view c.self.inside) c.args.job l c.in_default.ensures.absent)

pub returns-then-not-may_ask-clause-answer : goal.returns-then-not-may_ask-clause-answer
returns-then-not-may_ask-clause-answer c =
    let f = found c.self.inside c.args.job c.in-Some.i c.in-Some.ensures.found in
    stays (core_view c.self.inside) c.args.self.now (Same c.args.job (Err NotOpen)) c.self.view_is
    (λ d b h l. ask_not_open d b h (core_view c.self.inside) l c.args.job c.in-Some.i f (λ q. absurd (cc (c.if-not-may_ask.ensures.1 q))))

-- what was told of the job is what the book has
limited : (g g' : Facts) (n q m : ℕ) (limit : ℕ → ℕ) → g ≡ g' → q ≡ g.queue → n ≡ limit q → m ≡ g.granted → (n ≡ limit g'.queue) × (m ≡ g'.granted)
limited g g' n q m limit e eq en em = (en ∙ (ap limit eq ∙ ap (λ (y : Facts). limit y.queue) e), em ∙ ap (λ (y : Facts). y.granted) e)

pub returns-then-limit_of-granted-clause-answer : goal.returns-then-limit_of-granted-clause-answer
returns-then-limit_of-granted-clause-answer c =
    let a = c.self.inside in
    let n = limited c.job-found.result.now (job_at a.book c.in-Some.i).facts c.limit_of.result c.queue.result c.granted.result (limit_of a.config) c.job-found.ensures c.queue.ensures c.limit_of.ensures c.granted.ensures in
    let n0 = n.0 in
    let n1 = n.1 in
    let t = c.if-limit_of-granted.true in
    stays (core_view a) c.args.self.now (Same c.args.job (Err OverClaim)) c.self.view_is
    (λ d b h l. ask_over d b h (core_view a) l c.args.job c.in-Some.i (found a c.args.job c.in-Some.i c.in-Some.ensures.found) (c.if-not-may_ask.ensures.0 refl) (omega (arith, n0, n1, t)))

-- the job stands at its place, and holds fewer pages than its queue allows
module _ (c : After-get) where
  abbrev a : Inside
  a = c.self.inside

  place : Found (core_view a) c.args.job c.in-Some.i
  place = found a c.args.job c.in-Some.i c.in-Some.ensures.found

  below : (job_at a.book c.in-Some.i).facts.granted < limit_of a.config (job_at a.book c.in-Some.i).facts.queue
  below =
      let n = limited c.job-found.result.now (job_at a.book c.in-Some.i).facts c.limit_of.result c.queue.result c.granted.result (limit_of a.config) c.job-found.ensures c.queue.ensures c.limit_of.ensures c.granted.ensures in
      let n0 = n.0 in
      let n1 = n.1 in
      let t = c.if-limit_of-granted.false in
      omega (arith, n0, n1, t)

  needs : 0 < amount (row_at a.table.rows c.in-Some.i).need 0
  needs = let r = c.self.invariant.reached in row_needs Outlines r.0 r.1 (core_view a) r.2 c.args.job c.in-Some.i place (c.if-not-may_ask.ensures.0 refl) below

  same_free : c.get.result ≡ amount a.table.free 0
  same_free = c.get.ensures ∙ ap (λ (l : List ℕ). amount l 0) c.free.ensures.free

  page_free : (c.get.result ≡ 0 → ⊥) → 0 < amount a.table.free 0
  page_free some = let e = same_free in let ne : c.get.result ≢ 0 = some in omega (arith, e, ne)

pub returns-then-get-eq0-clause-answer : goal.returns-then-get-eq0-clause-answer
returns-then-get-eq0-clause-answer c =
    let x = (goal.at.returns-then-get-eq0-clause-answer c).After-get in
    stays (core_view c.self.inside) c.args.self.now (Same c.args.job (Ok Later)) c.self.view_is
    (λ d b h l. ask_none_free d b h (core_view c.self.inside) l c.args.job c.in-Some.i (place x) (c.if-not-may_ask.ensures.0 refl) (below x) (sym (same_free x) ∙ c.if-get-eq0.true))

pub safe_after_page-requires-clause-needed : goal.safe_after_page-requires-clause-needed
safe_after_page-requires-clause-needed c = needs (goal.at.safe_after_page-requires-clause-needed c).After-get

pub grant-requires-clause-needed : goal.grant-requires-clause-needed
grant-requires-clause-needed c = needs (goal.at.grant-requires-clause-needed c).After-get

pub returns-then-not-safe_after_page-clause-answer : goal.returns-then-not-safe_after_page-clause-answer
returns-then-not-safe_after_page-clause-answer c =
    let x = (goal.at.returns-then-not-safe_after_page-clause-answer c).After-get in
    subst (λ (k : Kept). IsRight k (Answer c.args.job (Ok Later) (core_view c.self.inside) k)) c.self.view_is
    (λ d b h l. ask_not_safe d b h (core_view c.self.inside) l c.args.job c.in-Some.i (place x) (c.if-not-may_ask.ensures.0 refl) (below x) (page_free x c.if-get-eq0.false) (λ q. absurd (cc (c.safe_after_page.ensures.exact.1 q))))

safe_if : (b : Bool) → not b ≡ false → IsTrue b
safe_if true e = refl
safe_if false e = absurd (cc)

-- a page is lent
lent : (c : In-Some-take) → (job_at c.self.inside.book c.in-Some.i).facts.granted < limit_of c.self.inside.config (job_at c.self.inside.book c.in-Some.i).facts.queue → 0 < amount c.self.inside.table.free 0
    → let new : Kept = record (core_view c.self.inside) { pool = c.take.new.self; book = c.lend.new.self; table = c.grant.new.self } in
    IsRight (core_view c.self.inside) (Answer c.args.job (Ok (Page' c.in-Some-take.ticket)) new (core_view c.self.inside))
lent c lt free d b h l =
    let a = c.self.inside in
    let k = core_view a in
    let safe = c.safe_after_page.ensures.exact.0 (safe_if c.safe_after_page.result.safe c.if-not-safe_after_page.false) in
    subst (λ (w : Kept). Asks d b h k c.args.job w (Ok (Page' c.in-Some-take.ticket)))
    (parts k (record a.pool { free = a.pool.free - 1 }) c.take.new.self (with_job a.book c.in-Some.i (told lent_facts (job_at a.book c.in-Some.i))) c.lend.new.self (granted a.table c.in-Some.i 0) c.grant.new.self
    c.in-Some-take.ensures.left.1 c.lend.ensures c.grant.ensures)
    (ask_page d b h k l c.args.job c.in-Some.i (found a c.args.job c.in-Some.i c.in-Some.ensures.found) c.in-Some-take.ticket (c.if-not-may_ask.ensures.0 refl) lt free safe c.in-Some-take.ensures.page)

pub invariant_of-self-2 : goal.invariant_of-self-2
invariant_of-self-2 c =
    let x = goal.at.invariant_of-self-2 c in
    let s = c.safe_after_page.ensures.room in
    let r = c.self.invariant.reached in
    still c.self.inside _ c.self.invariant refl (ap (λ (s : Room). s.rows) s) (ap (λ (s : Room). s.kinds) s) (r.0, _, (lent x.In-Some-take (below x.After-get) (page_free x.After-get c.if-get-eq0.false) Outlines r.0 r.1 r.2).2)

pub returns-clause-answer : goal.returns-clause-answer
returns-clause-answer c =
    let x = goal.at.returns-clause-answer c in
    let new : Kept = record (core_view c.self.inside) { pool = c.take.new.self; book = c.lend.new.self; table = c.grant.new.self } in
    subst (λ (k : Kept). IsRight k (Answer c.args.job (Ok (Page' c.in-Some-take.ticket)) new k)) c.self.view_is (lent x.In-Some-take (below x.After-get) (page_free x.After-get c.if-get-eq0.false))

pub returns-clause-page : goal.returns-clause-page
returns-clause-page c =
    let is = c.in-Some-take.ensures.page in
    let r = c.self.invariant.reached in
    (ap (λ (p : Page). p.octets) is, ap (λ (p : Page). p.page_size) is ∙ (ap (λ (p : Pages). p.page_size) r.2.kept.pool ∙ ap (λ (k : Kept). k.config.page_size) c.self.view_is))

use Rattle.std.proofs.Common.{◌≡◌, ℕ, ◌+◌, ◌<◌, ◌≤◌, List, refl, ap, subst, sym, ◌∙◌, arith}
use Rattle.std.specs.Prelude.{Result, Ok, Err}
use Rattle.held_jobs.specs.Jobs.{Facts}
use Rattle.held_jobs.specs.Books.{Books, job_at}
use Rattle.spool_history.specs.Base.{Base}
use Rattle.spool_history.specs.Events.{Event}
use Rattle.lpd_values.specs.declared.refusal.Refusal.{Refusal}
use Rattle.spool_calls.specs.Looks.{Detail, What}
use Rattle.spool_calls.specs.Looks.Detail.{Outlines}
use Rattle.spool_calls.specs.Kept.{Kept}
use Rattle.spool_calls.specs.Calls.{IsRight}
use Rattle.step_lemmas.proofs.Cores.Leaving.{Found}
use Rattle.spool_core.specs.Inside.{core_view}
use Rattle.spool_core.proofs.Cores.{found, stays, still}
use Rattle.held_jobs.specs.declared.phase.Phase.TheVariants.{Receiving}
use Rattle.page_chain.specs.declared.error.ChainError.{ChainError}
use Rattle.page_chain.specs.Files.{names_of}
use Rattle.page_chain.specs.Changes.{RefusedFor}
use Rattle.config_values.specs.Config.{limit_of}
use Rattle.spool_history.specs.Legal.{pages_for}
use Rattle.lpd_values.specs.declared.refusal.Refusal.TheVariants.{NotOpen, FileOpen, NameTaken, FilesFull, OverClaim}
use Rattle.spool_calls.specs.Calls.{Begins}
use Rattle.step_lemmas.proofs.Cores.Filing.{begin_done, begin_full, begin_none, begin_not_open, begin_open, begin_over, begin_taken, files_room, idle}
use Rattle.spool_core.proofs.core_state.Core.begin_file.Goals.{After-begin, After-is_receiving}
use Rattle.spool_core.proofs.core_state.Core.begin_file.Goals as goal

abbrev Answer : ℕ → List ℕ → ℕ → Result (Unit {0}) Refusal → Kept → Kept → (d : Detail) → Base → List (Event (What d)) → Type 0
Answer job name count r new k d b h = Begins d b h k job name count new r

abbrev Same : ℕ → List ℕ → ℕ → Result (Unit {0}) Refusal → Kept → (d : Detail) → Base → List (Event (What d)) → Type 0
Same job name count r k d b h = Begins d b h k job name count k r

pub returns-in_default-clause-answer : goal.returns-in_default-clause-answer
returns-in_default-clause-answer c =
    stays (core_view c.self.inside) c.args.self.now (Same c.args.job c.args.name c.args.count (Err NotOpen)) c.self.view_is
    (λ d b h l. begin_none d b h (core_view c.self.inside) c.args.job c.args.name c.args.count l c.in_default.ensures.absent)

-- the job was found at its place
place : (c : After-is_receiving) → Found (core_view c.self.inside) c.args.job c.in-Some.i
place c = found c.self.inside c.args.job c.in-Some.i c.in-Some.ensures.found

-- where it is being received, the book says so too
receiving : (c : After-is_receiving) → c.job.result.now.phase ≡ Receiving → (job_at c.self.inside.book c.in-Some.i).facts.phase ≡ Receiving
receiving c p = sym (ap (λ (g : Facts). g.phase) c.job.ensures) ∙ p

pub returns-then-not-is_receiving-clause-answer : goal.returns-then-not-is_receiving-clause-answer
returns-then-not-is_receiving-clause-answer c =
    let f = place (goal.at.returns-then-not-is_receiving-clause-answer c).After-is_receiving in
    stays (core_view c.self.inside) c.args.self.now (Same c.args.job c.args.name c.args.count (Err NotOpen)) c.self.view_is
    (λ d b h l. begin_not_open d b h (core_view c.self.inside) l c.args.job c.in-Some.i f c.args.name c.args.count
    (λ q. absurd (cc (c.if-not-is_receiving.ensures.1 (ap (λ (g : Facts). g.phase) c.job.ensures ∙ q)))))

pub returns-then-is_open-clause-answer : goal.returns-then-is_open-clause-answer
returns-then-is_open-clause-answer c =
    let x = (goal.at.returns-then-is_open-clause-answer c).After-is_receiving in
    let p = receiving x (c.if-not-is_receiving.ensures.0 refl) in
    stays (core_view c.self.inside) c.args.self.now (Same c.args.job c.args.name c.args.count (Err FileOpen)) c.self.view_is
    (λ d b h l. begin_open d b h (core_view c.self.inside) l c.args.job c.in-Some.i (place x) c.args.name c.args.count p (sym c.is_open.ensures ∙ c.if-is_open.true))

pub returns-in-Some-NameTaken-clause-answer : goal.returns-in-Some-NameTaken-clause-answer
returns-in-Some-NameTaken-clause-answer c =
    let x = (goal.at.returns-in-Some-NameTaken-clause-answer c).After-is_receiving in
    let p = receiving x (c.if-not-is_receiving.ensures.0 refl) in
    stays (core_view c.self.inside) c.args.self.now (Same c.args.job c.args.name c.args.count (Err NameTaken)) c.self.view_is
    (λ d b h l. begin_taken d b h (core_view c.self.inside) l c.args.job c.in-Some.i (place x) c.args.name c.args.count p (sym c.is_open.ensures ∙ c.if-is_open.false)
    (subst (λ (e : ChainError). RefusedFor (names_of (job_at c.self.inside.book c.in-Some.i).chain.files) 52 c.args.name e) c.in-Some-NameTaken.field-0-is c.in-Some-NameTaken.ensures))

pub returns-in-Some-FilesFull-clause-answer : goal.returns-in-Some-FilesFull-clause-answer
returns-in-Some-FilesFull-clause-answer c =
    let x = (goal.at.returns-in-Some-FilesFull-clause-answer c).After-is_receiving in
    let p = receiving x (c.if-not-is_receiving.ensures.0 refl) in
    stays (core_view c.self.inside) c.args.self.now (Same c.args.job c.args.name c.args.count (Err FilesFull)) c.self.view_is
    (λ d b h l. begin_full d b h (core_view c.self.inside) l c.args.job c.in-Some.i (place x) c.args.name c.args.count p (sym c.is_open.ensures ∙ c.if-is_open.false)
    (subst (λ (e : ChainError). RefusedFor (names_of (job_at c.self.inside.book c.in-Some.i).chain.files) 52 c.args.name e) c.in-Some-FilesFull.field-0-is c.in-Some-FilesFull.ensures))

pub returns-then-is_over-clause-answer : goal.returns-then-is_over-clause-answer
returns-then-is_over-clause-answer c =
    let x = (goal.at.returns-then-is_over-clause-answer c).After-is_receiving in
    let p = receiving x (c.if-not-is_receiving.ensures.0 refl) in
    let config = c.self.inside.config in
    let lt = subst (λ (y : Facts). limit_of config y.queue < y.granted + pages_for config.page_size c.args.count) c.job-2.ensures (c.if-is_over.ensures.0 refl) in
    stays (core_view c.self.inside) c.args.self.now (Same c.args.job c.args.name c.args.count (Err OverClaim)) c.self.view_is
    (λ d b h l. begin_over d b h (core_view c.self.inside) l c.args.job c.in-Some.i (place x) c.args.name c.args.count p (sym c.is_open.ensures ∙ c.if-is_open.false) c.in-None.ensures lt)

pub begin-requires-clause-idle : goal.begin-requires-clause-idle
begin-requires-clause-idle c =
    let x = (goal.at.begin-requires-clause-idle c).After-is_receiving in
    let r = c.self.invariant.reached in
    idle Outlines r.0 r.1 (core_view c.self.inside) r.2 c.args.job c.in-Some.i (place x) (receiving x (c.if-not-is_receiving.ensures.0 refl)) (sym c.is_open.ensures ∙ c.if-is_open.false)

pub begin-requires-clause-files : goal.begin-requires-clause-files
begin-requires-clause-files c =
    let x = (goal.at.begin-requires-clause-files c).After-is_receiving in
    let r = c.self.invariant.reached in
    files_room Outlines r.0 r.1 (core_view c.self.inside) r.2 c.args.job c.in-Some.i (place x) c.args.name (receiving x (c.if-not-is_receiving.ensures.0 refl)) c.in-None.ensures

begun : (c : After-begin) → IsRight (core_view c.self.inside) (Answer c.args.job c.args.name c.args.count (Ok tt) (record (core_view c.self.inside) { book = c.begin.new.self }) (core_view c.self.inside))
begun c d b h l =
    let a = c.self.inside in
    let f = found a c.args.job c.in-Some.i c.in-Some.ensures.found in
    let p : (job_at a.book c.in-Some.i).facts.phase ≡ Receiving = sym (ap (λ (g : Facts). g.phase) c.job.ensures) ∙ c.if-not-is_receiving.ensures.0 refl in
    let never : limit_of a.config c.job-2.result.now.queue < c.job-2.result.now.granted + pages_for a.config.page_size c.args.count → ⊥ = λ q. absurd (cc (c.if-is_over.ensures.1 q)) in
    let le : c.job-2.result.now.granted + pages_for a.config.page_size c.args.count ≤ limit_of a.config c.job-2.result.now.queue = grind (arith, never) in
    subst (λ (z : Books). Begins d b h (core_view a) c.args.job c.args.name c.args.count (record (core_view a) { book = z }) (Ok tt)) (sym c.begin.ensures)
    (begin_done d b h (core_view a) l c.args.job c.in-Some.i f c.args.name c.args.count c.requires p (sym c.is_open.ensures ∙ c.if-is_open.false) c.in-None.ensures
    (subst (λ (y : Facts). y.granted + pages_for a.config.page_size c.args.count ≤ limit_of a.config y.queue) c.job-2.ensures le))

pub invariant_of-self : goal.invariant_of-self
invariant_of-self c =
    let r = c.self.invariant.reached in
    still c.self.inside _ c.self.invariant refl refl refl (r.0, _, (begun (goal.at.invariant_of-self c).After-begin Outlines r.0 r.1 r.2).1)

pub returns-clause-answer : goal.returns-clause-answer
returns-clause-answer c =
    subst (λ (k : Kept). IsRight k (Answer c.args.job c.args.name c.args.count (Ok tt) (record (core_view c.self.inside) { book = c.begin.new.self }) k)) c.self.view_is
    (begun (goal.at.returns-clause-answer c).After-begin)

use Rattle.std.proofs.Common.{◌-◌, ◌<◌, ℕ, List, length, refl, ap, subst, sym, ◌∙◌}
use Rattle.held_jobs.specs.Jobs.{Facts, last_size}
use Rattle.held_jobs.specs.Books.{job_at}
use Rattle.spool_history.specs.Base.{Base}
use Rattle.spool_history.specs.Events.{Event}
use Rattle.spool_calls.specs.Looks.{Detail, What}
use Rattle.spool_calls.specs.Looks.Detail.{Outlines}
use Rattle.spool_calls.specs.Kept.{Kept}
use Rattle.spool_calls.specs.Readers.{HasOpenFile, IsOpenFile}
use Rattle.step_lemmas.proofs.Cores.Reading.{last_file, no_file_of, no_file_open, no_file_unreceived}
use Rattle.spool_core.specs.Inside.{core_view}
use Rattle.spool_core.proofs.Cores.{found, stays}
use Rattle.spool_core.proofs.core_state.Core.open_file.Goals as goal

abbrev NoFile : ℕ → Kept → (d : Detail) → Base → List (Event (What d)) → Type 0
NoFile job k d b h = HasOpenFile d b h k job → ⊥

abbrev OneFile : (job file pages : ℕ) → Kept → (d : Detail) → Base → List (Event (What d)) → Type 0
OneFile job file pages k d b h = IsOpenFile d b h k job file pages

pub returns-in_default : goal.returns-in_default
returns-in_default c =
    let k = core_view c.self.inside in
    stays k c.args.self.now (NoFile c.args.job) c.self.view_is (λ d b h l. no_file_of d b h k l c.args.job c.in_default.ensures.absent)

pub returns-then-not-is_receiving : goal.returns-then-not-is_receiving
returns-then-not-is_receiving c =
    let k = core_view c.self.inside in
    let f = found c.self.inside c.args.job c.in-Some.i c.in-Some.ensures.found in
    stays k c.args.self.now (NoFile c.args.job) c.self.view_is
    (λ d b h l. no_file_unreceived d b h k l c.args.job c.in-Some.i f (λ q. absurd (cc (c.if-not-is_receiving.ensures.1 (ap (λ (g : Facts). g.phase) c.job-found.ensures ∙ q)))))

pub returns-then-not-is_open : goal.returns-then-not-is_open
returns-then-not-is_open c =
    let k = core_view c.self.inside in
    let f = found c.self.inside c.args.job c.in-Some.i c.in-Some.ensures.found in
    stays k c.args.self.now (NoFile c.args.job) c.self.view_is
    (λ d b h l. no_file_open d b h k l c.args.job c.in-Some.i f (sym c.if-not-is_open.ensures))

pub next_page-requires : goal.next_page-requires
next_page-requires c =
    let k = core_view c.self.inside in
    let f = found c.self.inside c.args.job c.in-Some.i c.in-Some.ensures.found in
    let p = sym (ap (λ (g : Facts). g.phase) c.job-found.ensures) ∙ c.if-not-is_receiving.ensures.0 refl in
    let r = c.self.invariant.reached in
    let g = last_file Outlines r.0 r.1 k r.2 c.args.job c.in-Some.i f p (sym c.if-not-is_open.ensures) in
    subst (λ (y : Facts). 0 < length y.files) (sym c.job-found.ensures) g.some

pub returns : goal.returns
returns c =
    let k = core_view c.self.inside in
    let f = found c.self.inside c.args.job c.in-Some.i c.in-Some.ensures.found in
    let p = sym (ap (λ (g : Facts). g.phase) c.job-found.ensures) ∙ c.if-not-is_receiving.ensures.0 refl in
    let e0 = c.next_page.ensures.0 ∙ ap (λ (y : Facts). length y.files - 1) c.job-found.ensures in
    let e1 = c.next_page.ensures.1 ∙ ap (λ (y : Facts). (last_size y.files).pages) c.job-found.ensures in
    stays k c.args.self.now (OneFile c.args.job c.next_page.result.file c.next_page.result.number) c.self.view_is
    (λ d b h l. subst (λ (n : ℕ). IsOpenFile d b h k c.args.job n c.next_page.result.number) (sym e0)
    (subst (λ (n : ℕ). IsOpenFile d b h k c.args.job (length (job_at c.self.inside.book c.in-Some.i).facts.files - 1) n) (sym e1) (last_file d b h k l c.args.job c.in-Some.i f p (sym c.if-not-is_open.ensures)).is))

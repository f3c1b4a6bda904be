use Rattle.std.proofs.Common.{◌≡◌, ℕ, true, false, List, refl, ap, sym, ◌∙◌, subst, Bor}
use Rattle.std.specs.Prelude.{Option, None, Some, is_some, option_copied}
use Rattle.control_file.specs.declared.control.Control.{Control}
use Rattle.lpd_values.specs.declared.refusal.Refusal.{Refusal}
use Rattle.lpd_values.specs.declared.refusal.Refusal.TheVariants.{ControlTwice, NotOpen}
use Rattle.held_jobs.specs.Jobs.{Facts, contents_of}
use Rattle.spool_history.specs.Base.{Base}
use Rattle.spool_history.specs.Events.{Event}
use Rattle.spool_history.specs.Refusals.{RefusesControl}
use Rattle.spool_calls.specs.Looks.{Detail, What}
use Rattle.spool_calls.specs.Kept.{Kept, left_by}
use Rattle.step_lemmas.proofs.Cores.Reading.{refuses_none, refuses_unreceived, refuses_twice}
use Rattle.spool_core.specs.Inside.{core_view}
use Rattle.spool_core.specs.Places.{LacksControl}
use Rattle.spool_core.proofs.Cores.{found, stays}
use Rattle.spool_core.proofs.core_state.Core.lacks_control.Goals as goal

abbrev Refuses : ℕ → Refusal → Kept → (d : Detail) → Base → List (Event (What d)) → Type 0
Refuses job n k d b h = RefusesControl (left_by d b h k) job n

none_told : (o : Option (Bor Control)) → false ≡ is_some o → contents_of (option_copied o) ≡ None
none_told None e = refl
none_told (Some x) e = absurd cc

some_told : (o : Option (Bor Control)) → true ≡ is_some o → contents_of (option_copied o) ≡ None → ⊥
some_told None e n = absurd cc
some_told (Some x) e n = absurd cc

pub returns-in_default-clause-refused : goal.returns-in_default-clause-refused
returns-in_default-clause-refused c =
    let k = core_view c.self.inside in
    stays k c.args.self.now (Refuses c.args.job NotOpen) c.self.view_is (λ d b h l. refuses_none d b h k l c.args.job c.in_default.ensures.absent)

pub returns-then-not-is_receiving-clause-refused : goal.returns-then-not-is_receiving-clause-refused
returns-then-not-is_receiving-clause-refused c =
    let k = core_view c.self.inside in
    let f = found c.self.inside c.args.job c.in-Some.i c.in-Some.ensures.found in
    stays k c.args.self.now (Refuses c.args.job NotOpen) c.self.view_is
    (λ d b h l. refuses_unreceived d b h k l c.args.job c.in-Some.i f (λ q. absurd (cc (c.if-not-is_receiving.ensures.1 (ap (λ (g : Facts). g.phase) c.job-found.ensures ∙ q)))))

pub returns-then-is_some-clause-refused : goal.returns-then-is_some-clause-refused
returns-then-is_some-clause-refused c =
    let k = core_view c.self.inside in
    let f = found c.self.inside c.args.job c.in-Some.i c.in-Some.ensures.found in
    let p = sym (ap (λ (g : Facts). g.phase) c.job-found.ensures) ∙ c.if-not-is_receiving.ensures.0 refl in
    stays k c.args.self.now (Refuses c.args.job ControlTwice) c.self.view_is
    (λ d b h l. refuses_twice d b h k l c.args.job c.in-Some.i f p (λ n. some_told c.control.result c.if-is_some.ensures (sym c.control.ensures ∙ (ap (λ (g : Facts). g.control) c.job-found.ensures ∙ n))))

pub returns-clause-lacks : goal.returns-clause-lacks
returns-clause-lacks c =
    let f = c.in-Some.ensures.found in
    subst (λ (k : Kept). LacksControl k c.args.job c.in-Some.i) c.self.view_is
    (record {
      there = f.0;
      number = f.1;
      receiving = sym (ap (λ (g : Facts). g.phase) c.job-found.ensures) ∙ c.if-not-is_receiving.ensures.0 refl;
      none = sym (ap (λ (g : Facts). g.control) c.job-found.ensures) ∙ (c.control.ensures ∙ none_told c.control.result c.if-is_some.ensures);
    })

use Rattle.std.proofs.Common.{◌≡◌, ◌+◌, ◌≤◌, ◌^◌, ℕ, ap, refl, subst, sym}
use Rattle.std.specs.Prelude.{MatchOption, Option}
use Rattle.config_values.specs.Config.{Config}
use Rattle.spool_laws.specs.Freeing.{wider}
use Rattle.segment_text.specs.Seen.{begin_seen, start_seen}
use Rattle.std.proofs.lemmas.Bool.{iff_false}
use Rattle.segment_audit.proofs.Arms.{amid_freed, is_widened, only_amid, room_is}
use Rattle.segment_audit.proofs.course.Course.go_amid.Goals as goal

pub returns-in-Some-clause-course : goal.returns-in-Some-clause-course
returns-in-Some-clause-course c = λ v x.
    let k = c.args.self in
    let more = c.gives_back-more.result in
    let m = c.gives_back-more.ensures in
    let s = start_seen c.args.start.now in
    let amid = (c.comes_to.ensures v x).0 c.if-not-comes_to.false in
    let w = subst (λ (o : Option Config). MatchOption o (more + k.config.account ≤ 2 ^ 62 → ⊥) (λ (z : Config). (more + k.config.account ≤ 2 ^ 62) × (z ≡ wider more k.config))) c.in-Some.is c.widened.ensures in (
      (subst (λ (n : ℕ). n ≤ 2 ^ 62) (room_is k more v x m) w.0, amid),
      is_widened c.wider_is_legal.ensures k more c.in-Amid.freed c.in-Some.config v x m (amid_freed k s c.in-Amid.since c.in-Amid.freed more v x (ap begin_seen c.in-Amid.is) m amid) w.1,
    )

pub returns-in-None-clause-course : goal.returns-in-None-clause-course
returns-in-None-clause-course c = λ v x goes.
    let k = c.args.self in
    let more = c.gives_back-more.result in
    let never = subst (λ (o : Option Config). MatchOption o (more + k.config.account ≤ 2 ^ 62 → ⊥) (λ (z : Config). (more + k.config.account ≤ 2 ^ 62) × (z ≡ wider more k.config))) c.in-None.is c.widened.ensures in
    never (subst (λ (n : ℕ). n ≤ 2 ^ 62) (sym (room_is k more v x c.gives_back-more.ensures)) goes.0)

pub returns-in_default-clause-course : goal.returns-in_default-clause-course
returns-in_default-clause-course c = λ v x goes.
    only_amid c.args.start.now.begin (start_seen c.args.start.now) v refl c.in_default.not-Amid goes.1

pub returns-then-not-comes_to-clause-course : goal.returns-then-not-comes_to-clause-course
returns-then-not-comes_to-clause-course c = λ v x goes.
    iff_false (c.comes_to.ensures v x) c.if-not-comes_to.true goes.1

use Rattle.std.proofs.Common.{◌≡◌, ◌<◌, ◌^◌, [], ap, refl, subst}
use Rattle.std.specs.Prelude.{IfSome, MatchOption, Option}
use Rattle.config_values.specs.Config as S
use Rattle.spool_history.specs.Rotated.{rotated}
use Rattle.account.specs.declared.base.Base.{Base}
use Rattle.account.specs.Seen.{base_seen}
use Rattle.history_reader.specs.Seen.{state_seen}
use Rattle.segment_text.specs.Seen.{begin_seen, start_seen}
use Rattle.std.proofs.lemmas.Bool.{iff_false}
use Rattle.segment_audit.specs.Audited.{Rests}
use Rattle.segment_audit.proofs.Arms.{denied, does_rest, not_at_rest, only_rests, rested_counts, rests_same}
use Rattle.segment_audit.proofs.course.Course.rests.Goals as goal

pub returns-in-Some : goal.returns-in-Some
returns-in-Some c = λ v x.
    let k = c.args.self.now in
    let a = k.audit in
    let r = c.in-Some.is in
    let jobs = subst (λ (o : Option Base). MatchOption o (a.state.jobs.items ≡ [] → a.state.accepted < 2 ^ 64 → ⊥) (λ _. a.state.jobs.items ≡ [])) r c.in_ok-left.ensures.exact in
    let turned = subst (λ (o : Option Base). IfSome o (λ (y : Base). (s : S.Config) → base_seen y ≡ rotated (state_seen s a.state))) r c.in_ok-left.ensures.base in
    let s = start_seen c.args.start.now in
    let own = base_seen c.in-Base.base in
    let e = ap begin_seen c.in-Base.is in (
      λ t. does_rest k c.in-Some.left s own v x jobs (turned k.config) c.has_range.ensures (c.has_counted.ensures.0 c.if-not-has_counted.false) e (c.same_base.ensures.0 t),
      λ does. c.same_base.ensures.1 (rests_same k c.in-Some.left s own v x (turned k.config) e does).1,
    )

pub returns-in_default : goal.returns-in_default
returns-in_default c = λ v x.
    let s = start_seen c.args.start.now in
    denied (Rests v s) (only_rests c.args.start.now.begin s v refl c.in_default.not-Base)

pub returns-then-not-has_counted : goal.returns-then-not-has_counted
returns-then-not-has_counted c = λ v x.
    let s = start_seen c.args.start.now in
    denied (Rests v s) (λ does. iff_false c.has_counted.ensures c.if-not-has_counted.true (rested_counts c.args.self.now s v x does))

pub returns-in-None : goal.returns-in-None
returns-in-None c = λ v x.
    let k = c.args.self.now in
    let a = k.audit in
    let never = subst (λ (o : Option Base). MatchOption o (a.state.jobs.items ≡ [] → a.state.accepted < 2 ^ 64 → ⊥) (λ _. a.state.jobs.items ≡ [])) c.in-None.is c.in_ok-left.ensures.exact in
    denied (Rests v (start_seen c.args.start.now)) (λ does. not_at_rest k v x never does.0)

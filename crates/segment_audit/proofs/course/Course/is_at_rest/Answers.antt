use Rattle.std.proofs.Common.{◌≡◌, ◌<◌, ◌^◌, [], refl, subst}
use Rattle.std.specs.Prelude.{IfSome, MatchOption, Option}
use Rattle.config_values.specs.Config as S
use Rattle.spool_history.specs.Rotated.{rotated}
use Rattle.account.specs.declared.base.Base.{Base}
use Rattle.account.specs.Seen.{base_seen}
use Rattle.history_reader.specs.Seen.{state_seen}
use Rattle.segment_audit.specs.Audited.{IsAtRest, state_at}
use Rattle.segment_audit.proofs.Arms.{at_rest, denied, not_at_rest}
use Rattle.segment_audit.proofs.course.Course.is_at_rest.Goals as goal

pub returns-in-Some : goal.returns-in-Some
returns-in-Some c = λ v x.
    let k = c.args.self.now in
    let a = k.audit in
    let r = c.in-Some.is in
    let jobs = subst (λ (o : Option Base). MatchOption o (a.state.jobs.items ≡ [] → a.state.accepted < 2 ^ 64 → ⊥) (λ _. a.state.jobs.items ≡ [])) r c.in_ok-base.ensures.exact in
    let turned = subst (λ (o : Option Base). IfSome o (λ (y : Base). (s : S.Config) → base_seen y ≡ rotated (state_seen s a.state))) r c.in_ok-base.ensures.base in
    (λ t. at_rest k c.in-Some.base v x jobs (turned k.config) c.has_range.ensures, λ m. refl)

pub returns-in-None : goal.returns-in-None
returns-in-None c = λ v x.
    let k = c.args.self.now in
    let a = k.audit in
    let never = subst (λ (o : Option Base). MatchOption o (a.state.jobs.items ≡ [] → a.state.accepted < 2 ^ 64 → ⊥) (λ _. a.state.jobs.items ≡ [])) c.in-None.is c.in_ok-base.ensures.exact in
    denied (IsAtRest (state_at v)) (not_at_rest k v x never)

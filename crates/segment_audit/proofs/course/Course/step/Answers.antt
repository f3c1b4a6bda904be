use Rattle.std.proofs.Common.{◌≡◌, ◌+◌, subst}
use Rattle.std.specs.Prelude.{IfSome, MatchOption, Option, if◌then◌else◌}
use Rattle.spool_history.specs.Legal.{May}
use Rattle.account.specs.Kinds.{is_handed_kind, kind_of, number_of}
use Rattle.account.specs.Seen.{event_seen, octets}
use Rattle.history_reader.specs.Seen.{state_seen}
use Rattle.account_audit.specs.Audited.{Audited, Decides}
use Rattle.segment_audit.proofs.Arms.{may_come, may_not_come, taken}
use Rattle.segment_audit.proofs.course.Course.step.Goals as goal

pub returns-in-Some-clause-course : goal.returns-in-Some-clause-course
returns-in-Some-clause-course c = λ v x.
    let k = c.args.self in
    let a = k.audit in
    let entry = c.args.entry.now in
    let e = event_seen entry in
    let r = c.in-Some.is in
    let told = c.in_ok-audit.ensures in (
      may_come k e v x (subst (λ (o : Option Audited). MatchOption o (May octets (state_seen k.config a.state) e → ⊥) (λ _. May octets (state_seen k.config a.state) e)) r told.exact),
      taken k c.in-Some.audit entry v x (subst (Decides k.config a entry) r told.decides)
          (subst (λ (o : Option Audited). IfSome o (λ (b : Audited). b.entries ≡ a.entries + 1)) r told.counts)
          (subst (λ (o : Option Audited). IfSome o (λ (b : Audited). b.kinds ≡ a.kinds + number_of (kind_of e))) r told.kinds)
          (subst (λ (o : Option Audited). IfSome o (λ (b : Audited). b.handed ≡ a.handed + (if is_handed_kind (kind_of e) then 1 else 0))) r told.handed),
    )

pub returns-in-None-clause-course : goal.returns-in-None-clause-course
returns-in-None-clause-course c = λ v x.
    let k = c.args.self in
    let a = k.audit in
    let e = event_seen c.args.entry.now in
    may_not_come k e v x (subst (λ (o : Option Audited). MatchOption o (May octets (state_seen k.config a.state) e → ⊥) (λ _. May octets (state_seen k.config a.state) e)) c.in-None.is c.in_ok-audit.ensures.exact)

use Rattle.std.proofs.Common.{◌≡◌, ◌⊎◌, subst}
use Rattle.std.specs.Prelude.{MatchResult, Option}
use Rattle.segment_text.specs.Seen.{head_seen}
use Rattle.segment_audit.specs.declared.course.Course as K
use Rattle.segment_audit.specs.declared.fault.AuditFault.{AuditFault}
use Rattle.segment_audit.specs.declared.fault.AuditFault.TheVariants as fault
use Rattle.segment_audit.specs.declared.follow.Before as J
use Rattle.segment_audit.specs.Audited.{MayFollow, Past, course_from}
use Rattle.segment_audit.specs.Read.{IsBefore, IsCourse}
use Rattle.segment_audit.proofs.Matched.{behind, nothing}
use Rattle.segment_audit.proofs.part.follow.Goals as goal

pub returns-in-Some-clause-read : goal.returns-in-Some-clause-read
returns-in-Some-clause-read c = λ was v h.
    let next = head_seen c.args.next.now in
    behind c.in-Some.before was v (subst (λ (o : Option J.Before). IsBefore o was v) c.in-Some.is h)
    (λ (w : Option Past). MatchResult c.go_on.result
    (λ (k : K.Course). MayFollow c.args.after.now w v next × IsCourse k (course_from next.start.begin next.config next.start v))
    (λ (f : AuditFault). (f ≡ fault.Memory) ⊎ ((f ≡ fault.Follow) × (MayFollow c.args.after.now w v next → ⊥))))
    (λ p b. c.go_on.ensures.read p v b)

pub returns-in-None-clause-read : goal.returns-in-None-clause-read
returns-in-None-clause-read c = λ was v h.
    let next = head_seen c.args.next.now in
    nothing was v (subst (λ (o : Option J.Before). IsBefore o was v) c.in-None.is h)
    (λ (w : Option Past). MatchResult c.begin_first.result
    (λ (k : K.Course). MayFollow c.args.after.now w v next × IsCourse k (course_from next.start.begin next.config next.start v))
    (λ (f : AuditFault). (f ≡ fault.Memory) ⊎ ((f ≡ fault.Follow) × (MayFollow c.args.after.now w v next → ⊥))))
    (c.begin_first.ensures.read v)

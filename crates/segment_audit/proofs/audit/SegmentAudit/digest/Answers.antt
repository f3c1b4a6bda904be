use Rattle.std.proofs.Common.{◌∙◌, subst, sym}
use Rattle.segment_audit.specs.declared.part.Part.{Part}
use Rattle.segment_audit.specs.Audited.{course_of, past_of}
use Rattle.segment_audit.specs.Read.{IsPart}
use Rattle.segment_audit.proofs.Configs.{digest_known}
use Rattle.segment_audit.proofs.audit.SegmentAudit.digest.Goals as goal

pub returns-in-Between : goal.returns-in-Between
returns-in-Between c = λ after is h.
    c.digest_before.ensures (past_of is) (course_of is) (subst (λ (t : Part). IsPart t is) c.in-Between.is h.part).1 ∙ sym (digest_known is)

pub returns-in-Begun : goal.returns-in-Begun
returns-in-Begun c = λ after is h.
    c.digest_before-in-Begun.ensures (past_of is) (course_of is) (subst (λ (t : Part). IsPart t is) c.in-Begun.is h.part).1 ∙ sym (digest_known is)

pub returns-in-Headed : goal.returns-in-Headed
returns-in-Headed c = λ after is h.
    c.digest_before-in-Headed.ensures (past_of is) (course_of is) (subst (λ (t : Part). IsPart t is) c.in-Headed.is h.part).1 ∙ sym (digest_known is)

pub returns-in-Entries : goal.returns-in-Entries
returns-in-Entries c = λ after is h. (subst (λ (t : Part). IsPart t is) c.in-Entries.is h.part).2 ∙ sym (digest_known is)

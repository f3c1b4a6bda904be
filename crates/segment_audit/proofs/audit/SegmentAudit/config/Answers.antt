use Rattle.std.proofs.Common.{◌≡◌, sym, subst}
use Rattle.std.specs.Prelude.{MatchOption, None, Option, Some}
use Rattle.config_values.specs.Config.{Config}
use Rattle.segment_audit.specs.declared.part.Part.{Part}
use Rattle.segment_audit.specs.Audited.{course_of, past_of}
use Rattle.segment_audit.specs.Read.{IsPart}
use Rattle.segment_audit.proofs.Configs.{of_begun, of_between, of_entries, of_headed}
use Rattle.segment_audit.proofs.audit.SegmentAudit.config.Goals as goal

pub returns-in-Headed : goal.returns-in-Headed
returns-in-Headed c = λ after is h. of_headed c.args.self.now.part after is _ _ _ _ h.audited h.part c.in-Headed.is

pub returns-in-Entries : goal.returns-in-Entries
returns-in-Entries c = λ after is h. of_entries c.args.self.now.part after is _ _ _ h.audited h.part c.in-Entries.is

pub returns-in-Between : goal.returns-in-Between
returns-in-Between c = λ after is h.
    subst (λ (q : Option Config). MatchOption c.config_before.result (q ≡ None) (λ x. q ≡ Some x.now)) (sym (of_between c.args.self.now.part after is _ h.audited h.part c.in-Between.is))
    (c.config_before.ensures (past_of is) (course_of is) (subst (λ (t : Part). IsPart t is) c.in-Between.is h.part).1)

pub returns-in-Begun : goal.returns-in-Begun
returns-in-Begun c = λ after is h.
    subst (λ (q : Option Config). MatchOption c.config_before-in-Begun.result (q ≡ None) (λ x. q ≡ Some x.now)) (sym (of_begun c.args.self.now.part after is _ _ h.audited h.part c.in-Begun.is))
    (c.config_before-in-Begun.ensures (past_of is) (course_of is) (subst (λ (t : Part). IsPart t is) c.in-Begun.is h.part).1)

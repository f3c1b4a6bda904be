use Rattle.std.proofs.Common.{◌≡◌, ◌⊎◌, ◌∷◌, ℕ, List, inl, inr, refl, subst, sym}
use Rattle.std.specs.Prelude.{MatchResult, Option}
use Rattle.segment_text.specs.declared.head.Last.{Last}
use Rattle.segment_text.specs.declared.items.SegmentLine.TheVariants as line
use Rattle.segment_text.specs.declared.items.SegmentLine.{SegmentLine}
use Rattle.segment_text.specs.Items.{Item, item_seen}
use Rattle.segment_audit.specs.declared.fault.AuditFault.{AuditFault}
use Rattle.segment_audit.specs.declared.fault.AuditFault.TheVariants as fault
use Rattle.segment_audit.specs.declared.part.Part.{Part}
use Rattle.segment_audit.specs.Audited.{MayEnd, Meets, course_of, head_of, present, state_at}
use Rattle.segment_audit.specs.Read.{IsPart, Refuses}
use Rattle.segment_audit.proofs.Matched.{result_map}
use Rattle.segment_audit.proofs.part.read_body.Goals as goal

refuse : (after : Option (List ℕ)) (is : List Item) (l : Last) (f : AuditFault) → (f ≡ fault.Memory) ⊎ ((f ≡ fault.Entry) × (MayEnd (head_of (present is)).origin.version (state_at (course_of is)) → ⊥)) → Refuses f after is (item_seen (line.Last l))
refuse after is l f (inl e) = subst (λ (x : AuditFault). Refuses x after is (item_seen (line.Last l))) (sym e) tt
refuse after is l f (inr b) = subst (λ (x : AuditFault). Refuses x after is (item_seen (line.Last l))) (sym b.0) b.1

pub returns-in-Last-clause-read : goal.returns-in-Last-clause-read
returns-in-Last-clause-read c = λ after is p n.
    subst (λ (g : SegmentLine). MatchResult c.end.result (λ (q : Part). Meets after is (item_seen g) × IsPart q (item_seen g ∷ is)) (λ (f : AuditFault). Refuses f after is (item_seen g))) (sym c.in-Last.is)
    (result_map c.end.result _ _ _ _ (λ q h. (h.0, h.1 _ refl refl refl)) (refuse after is c.in-Last.last) (c.end.ensures.read (present is) (course_of is) p.0 p.1))

-- One line more of an audit.
use Rattle.std.proofs.Common.{◌≡◌, ◌<◌, ◌^◌, ◌⊎◌, ℕ, List, inl, inr, length, subst, sym}
use Rattle.std.specs.Prelude.{Option}
use Rattle.segment_text.specs.Items.{Item, item_line, IsItem, MayStand}
use Rattle.segment_text.specs.Items.Item.{OfOrigin, OfConfig, OfPrinter, OfStart, OfEvent, OfLast}
use Rattle.segment_audit.specs.declared.fault.AuditFault.{AuditFault}
use Rattle.segment_audit.specs.declared.fault.AuditFault.TheVariants as fault
use Rattle.segment_audit.specs.Audited.{present}
use Rattle.segment_audit.specs.Read.{Refuses}
use Rattle.segment_audit.specs.Streams.{IsRefused, IsUnlawful}

-- what a line is refused for, where it may stand behind those of its segment
pub refused : (f : AuditFault) (after : Option (List ℕ)) (is : List Item) (i : Item) (line : List ℕ) → Refuses f after is i → line ≡ item_line i → MayStand (present is) i → IsRefused f after is line
refused fault.Memory after is i line r l m = tt
refused fault.Line after is i line r l m = absurd r
refused fault.Entry after is (OfOrigin o) line r l m = absurd r
refused fault.Entry after is (OfConfig c) line r l m = absurd r
refused fault.Entry after is (OfPrinter p) line r l m = absurd r
refused fault.Entry after is (OfStart s) line r l m = absurd r
refused fault.Entry after is (OfEvent e) line r l m = (OfEvent e, (l, m), IsUnlawful.Entry e (λ may. r may.1))
refused fault.Entry after is (OfLast e) line r l m = (OfLast e, (l, m), IsUnlawful.End e (λ may. r may.1))
refused fault.Follow after is (OfOrigin o) line r l m = absurd r
refused fault.Follow after is (OfConfig c) line r l m = absurd r
refused fault.Follow after is (OfPrinter p) line r l m = absurd r
refused fault.Follow after is (OfStart s) line r l m = (s, (l, m), λ may. r may.1)
refused fault.Follow after is (OfEvent e) line r l m = absurd r
refused fault.Follow after is (OfLast e) line r l m = absurd r

-- what a line is refused for before it is known what it tells
pub unread : (f : AuditFault) (n : ℕ) (after : Option (List ℕ)) (is : List Item) (line : List ℕ) → (f ≡ fault.Memory) ⊎ ((f ≡ fault.Line) × (n < 2 ^ 62 → (i : Item) → IsItem i → MayStand (present is) i → line ≡ item_line i → ⊥)) → n ≡ length is → IsRefused f after is line
unread f n after is line (inl e) l = subst (λ (x : AuditFault). IsRefused x after is line) (sym e) tt
unread f n after is line (inr b) l = subst (λ (x : AuditFault). IsRefused x after is line) (sym b.0) (subst (λ (m : ℕ). m < 2 ^ 62 → (i : Item) → IsItem i → MayStand (present is) i → line ≡ item_line i → ⊥) l b.1)

-- What an audit has read, and why it refuses a line.
use Rattle.std.specs.Prelude.{◌≡◌, ◌<◌, ◌^◌, ℕ, List, Option, length}
use Rattle.segment_text.specs.Items.{Item, item_line, IsItem, MayStand}
use Rattle.segment_text.specs.Items.Item.{OfStart, OfEvent, OfLast}
use Rattle.segment_text.specs.Streams.{HasRead}
use Rattle.segment_audit.specs.declared.audit.SegmentAudit.{SegmentAudit}
use Rattle.segment_audit.specs.declared.fault.AuditFault.{AuditFault}
use Rattle.segment_audit.specs.declared.fault.AuditFault.TheVariants as fault
use Rattle.segment_audit.specs.Audited.{AreAudited, MayCome, present}
use Rattle.segment_audit.specs.Read.{IsPart}
use Rattle.segment_audit.specs.Told.{IsTallyOf}

-- these lines were read, and are audited
pub record HasAudited (audit : SegmentAudit) (after : Option (List ℕ)) (is : List Item) : Type 0 where
  pub asked : audit.after ≡ after
  pub audited : AreAudited after is
  pub lines : audit.lines ≡ length is
  pub reader : HasRead audit.reader (present is)
  pub part : IsPart audit.part is
  pub tally : IsTallyOf audit.tally is

-- a line is that of one that may stand behind those of its segment, and may not come
abbrev pub IsLineOf : (is : List Item) → (line : List ℕ) → Item → Type 0
IsLineOf is line i = (line ≡ item_line i) × MayStand (present is) i

-- an entry may not come, or a segment may not end
pub data IsUnlawful (after : Option (List ℕ)) (is : List Item) : Item → Type 0 where
  Entry : (e : _) → (MayCome after is (OfEvent e) → ⊥) → IsUnlawful after is (OfEvent e)
  End : (l : _) → (MayCome after is (OfLast l) → ⊥) → IsUnlawful after is (OfLast l)

-- why a line is refused: it is that of nothing that can be told and may stand there (or 2^62 lines were read); it is that of an
-- entry that may not come, or of an end where a segment may not end; it is the last line of a head that may not follow
abbrev pub IsRefused : AuditFault → (after : Option (List ℕ)) → List Item → List ℕ → Type 0
IsRefused fault.Line after is line =
    length is < 2 ^ 62 → (i : Item) → IsItem i → MayStand (present is) i → line ≡ item_line i → ⊥
IsRefused fault.Entry after is line = (i : Item) × IsLineOf is line i × IsUnlawful after is i
IsRefused fault.Follow after is line = (s : _) × IsLineOf is line (OfStart s) × (MayCome after is (OfStart s) → ⊥)
IsRefused fault.Memory after is line = Unit {0}

-- What holds of lines that are audited.
use Rattle.std.specs.Prelude.{◌≡◌, ℕ, List, Option}
use Rattle.spool_history.specs.Base.{Base}
use Rattle.spool_history.specs.Legal.{IsLegal}
use Rattle.account.specs.Seen.{octets}
use Rattle.segment_text.specs.declared.items.Stage.TheVariants as stage
use Rattle.segment_text.specs.Heads.Begin.{AtBase}
use Rattle.segment_text.specs.Items.{Item, stage_of}
use Rattle.segment_audit.specs.Audited.{AreAudited, course_of, events_of, head_of, present}

-- the events of a run since its last base are legal from that base, in an account that has as many entries more as were given back
abbrev pub RunsAreLegal : Type 0
RunsAreLegal =
    (after : Option (List ℕ)) (is : List Item) → AreAudited after is
    → IsLegal octets (course_of is).config (course_of is).base (course_of is).events

-- where the segment that is read begins from a base, these events are its entries, and the account is as its configuration says
pub record IsItsOwn (b : Base) (is : List Item) : Type 0 where
  pub base : (course_of is).base ≡ b
  pub config : (course_of is).config ≡ (head_of (present is)).config
  pub events : (course_of is).events ≡ events_of (present is)

abbrev pub SegmentsAreTheirOwn : Type 0
SegmentsAreTheirOwn =
    (after : Option (List ℕ)) (is : List Item) (b : Base) → AreAudited after is → stage_of (present is) ≡ stage.Entries
    → (head_of (present is)).start.begin ≡ AtBase b → IsItsOwn b is

-- the entries of the segment that is read now, where it begins from a base, are legal from that
abbrev pub AuditedAreLegal : Type 0
AuditedAreLegal =
    (after : Option (List ℕ)) (is : List Item) (b : Base) → AreAudited after is → stage_of (present is) ≡ stage.Entries
    → (head_of (present is)).start.begin ≡ AtBase b
    → IsLegal octets (head_of (present is)).config b (events_of (present is))

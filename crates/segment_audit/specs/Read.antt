-- What an audit holds of the lines that it has read.
use Rattle.std.specs.Prelude.{◌≡◌, ℕ, List, [], Option, Some, None, length, map}
use Rattle.config_values.specs.Config.{Config}
use Rattle.spool_history.specs.Legal.{IsLeftBy}
use Rattle.account.specs.Kinds.{kinds_in, handed_in}
use Rattle.account.specs.Seen.{octets}
use Rattle.history_reader.specs.Seen.{state_seen}
use Rattle.segment_text.specs.declared.head.Head as D
use Rattle.segment_text.specs.declared.head.Origin as O
use Rattle.segment_text.specs.declared.head.HeadPrinter as P
use Rattle.segment_text.specs.declared.items.Stage.{Stage}
use Rattle.segment_text.specs.declared.items.Stage.TheVariants as stage
use Rattle.segment_text.specs.Items.{Item, Suits, stage_of}
use Rattle.segment_text.specs.Items.Item.{OfStart, OfEvent, OfLast}
use Rattle.segment_text.specs.Seen.{head_seen, origin_seen, printer_seen}
use Rattle.segment_audit.specs.declared.fault.AuditFault.{AuditFault}
use Rattle.segment_audit.specs.declared.fault.AuditFault.TheVariants as fault
use Rattle.segment_audit.specs.declared.course.Course as K
use Rattle.segment_audit.specs.declared.follow.Before as J
use Rattle.segment_audit.specs.declared.part.Part.{Part}
use Rattle.segment_audit.specs.declared.part.Part.TheVariants as part
use Rattle.segment_audit.specs.Audited.{Course, Past, Meets, course_of, head_of, past_digest, past_of, present}

-- this is what a run has come to: its events are legal and leave the spool where the audit has it, and are what that has counted
pub record IsCourse (k : K.Course) (c : Course) : Type 0 where
  pub config : k.config ≡ c.config
  pub freed : k.freed ≡ c.freed
  pub entries_before : k.entries ≡ c.entries
  pub kinds_before : k.kinds ≡ c.kinds
  pub handed_before : k.handed ≡ c.handed
  pub left : IsLeftBy octets c.base c.events (state_seen k.config k.audit.state)
  pub entries : k.audit.entries ≡ length c.events
  pub kinds : k.audit.kinds ≡ kinds_in c.events
  pub handed : k.audit.handed ≡ handed_in c.events

abbrev pub IsAtPrinters : Stage → Type 0
IsAtPrinters (stage.Printers n) = Unit {0}
IsAtPrinters _ = ⊥

-- these are the first lines of a segment, up to the first of its printers
pub record IsBegun (o : O.Origin) (is : List Item) : Type 0 where
  pub stage : stage_of is ≡ stage.Config
  pub origin : origin_seen o ≡ (head_of is).origin
  pub printers : (head_of is).printers ≡ []

pub record IsHeaded (o : O.Origin) (c : Config) (ps : List P.HeadPrinter) (is : List Item) : Type 0 where
  pub stage : IsAtPrinters (stage_of is)
  pub origin : origin_seen o ≡ (head_of is).origin
  pub config : c ≡ (head_of is).config
  pub printers : map printer_seen ps ≡ (head_of is).printers

pub record HasEntries (h : D.Head) (is : List Item) : Type 0 where
  pub stage : stage_of is ≡ stage.Entries
  pub head : head_seen h ≡ head_of is

-- this is the segment that was over last, and what its run has come to
pub record IsBehind (b : J.Before) (past : Past) (c : Course) : Type 0 where
  pub head : head_seen b.head ≡ past.head
  pub digest : b.digest ≡ past.digest
  pub course : IsCourse b.course c

abbrev pub IsBefore : Option J.Before → Option Past → Course → Type 0
IsBefore None None c = Unit {0}
IsBefore (Some b) (Some past) c = IsBehind b past c
IsBefore _ _ c = ⊥

-- these lines were read
abbrev pub IsPart : Part → List Item → Type 0
IsPart (part.Between b) is = (present is ≡ []) × IsBefore b (past_of is) (course_of is)
IsPart (part.Begun b o) is = IsBegun o (present is) × IsBefore b (past_of is) (course_of is)
IsPart (part.Headed b o c ps) is = IsHeaded o c ps.items (present is) × IsBefore b (past_of is) (course_of is)
IsPart (part.Entries d h k) is = HasEntries h (present is) × IsCourse k (course_of is) × (d ≡ past_digest (past_of is))

-- how many entries were read since the last base
abbrev pub entries_before : Option J.Before → ℕ
entries_before None = 0
entries_before (Some b) = b.course.audit.entries

abbrev pub entries_in : Part → ℕ
entries_in (part.Between b) = entries_before b
entries_in (part.Begun b o) = entries_before b
entries_in (part.Headed b o c ps) = entries_before b
entries_in (part.Entries d h k) = k.audit.entries

-- the fault tells what is wanting of a line that may stand behind those of its segment
abbrev pub Refuses : AuditFault → (after : Option (List ℕ)) → List Item → Item → Type 0
Refuses fault.Memory after is i = Unit {0}
Refuses fault.Entry after is (OfEvent e) = Meets after is (OfEvent e) → ⊥
Refuses fault.Entry after is (OfLast l) = Meets after is (OfLast l) → ⊥
Refuses fault.Follow after is (OfStart s) = Meets after is (OfStart s) → ⊥
Refuses _ after is i = ⊥

-- a line comes next in the segment that is read
abbrev pub ComesNext : List Item → Item → Type 0
ComesNext is i = Suits (stage_of (present is)) i

-- What it is for the lines of segments to be audited. Lists of lines, as those of events, have the newest first.
use Rattle.std.specs.Prelude.{◌≡◌, ◌<◌, ◌≤◌, ◌+◌, ◌^◌, ◌⊎◌, ℕ, List, [], ◌∷◌, ◌++◌, Option, Some, None, length}
use Rattle.config_values.specs.Config.{Config}
use Rattle.spool_history.specs.Base.{Base, first_base}
use Rattle.spool_history.specs.Events.{Event}
use Rattle.spool_history.specs.Legal.{May}
use Rattle.spool_history.specs.Now.{State, now}
use Rattle.spool_history.specs.Rotated.{rotated}
use Rattle.spool_laws.specs.Freeing.{wider}
use Rattle.account.specs.declared.entry.Outline.{Outline}
use Rattle.account.specs.Kinds.{kinds_in, handed_in}
use Rattle.account.specs.Seen.{octets}
use Rattle.account_audit.specs.Giving.{given_back}
use Rattle.segment_text.specs.declared.head.Version.{Version}
use Rattle.segment_text.specs.declared.head.Version.TheVariants as version
use Rattle.segment_text.specs.Follow.{BeginsRun, FitsConfig, GoesOn, RunFollows}
use Rattle.segment_text.specs.Heads.{Begin, Head, Start}
use Rattle.segment_text.specs.Heads.Begin.{AtBase, Amid}
use Rattle.segment_text.specs.Items.{Item, MayStand}
use Rattle.segment_text.specs.Items.Item.{OfOrigin, OfConfig, OfPrinter, OfStart, OfEvent, OfLast}

-- the lines of the segment that is read now: those behind the last line of the one before it
abbrev pub present : List Item → List Item
present [] = []
present (OfLast l ∷ is) = []
present (i ∷ is) = i ∷ present is

abbrev pub no_head : Head
no_head = record {
  origin = record { version = version.One; run = 0; segment = 0; first = []; last = []; previous = None };
  config = record { pages = 0; page_size = 0; max_jobs = 0; account = 0; queues = [] };
  printers = [];
  start = record { entries = 0; kinds = 0; handed = 0; begin = AtBase first_base };
}

-- what stands at the head of a segment by one line more
abbrev pub with_line : Item → Head → Head
with_line (OfOrigin o) h = record h { origin = o }
with_line (OfConfig c) h = record h { config = c }
with_line (OfPrinter p) h = record h { printers = h.printers ++ p ∷ [] }
with_line (OfStart s) h = record h { start = s }
with_line _ h = h

-- what stands at the head of a segment of these lines
abbrev pub head_of : List Item → Head
head_of [] = no_head
head_of (i ∷ is) = with_line i (head_of is)

-- its entries
abbrev pub events_of : List Item → List (Event Outline)
events_of [] = []
events_of (OfEvent e ∷ is) = e ∷ events_of is
events_of (_ ∷ is) = events_of is

-- what a run has come to since its last base: what its spool is made for, whose account has so many entries more as so much of
-- what was counted was given back; what was before that base in the run (entries, the sum of the numbers of their kinds, hand-outs);
-- the base, and the events since then
pub record Course : Type 0 where
  pub config : Config
  pub freed : ℕ
  pub entries : ℕ
  pub kinds : ℕ
  pub handed : ℕ
  pub base : Base
  pub events : List (Event Outline)

abbrev pub no_course : Course
no_course = record { config = no_head.config; freed = 0; entries = 0; kinds = 0; handed = 0; base = first_base; events = [] }

-- where its events leave the spool
abbrev pub state_at : Course → State Outline
state_at c = now c.config c.base c.events

-- what a trim gives back there
abbrev pub given : Course → ℕ
given c = given_back (state_at c) c.freed

-- it begins from a base
abbrev pub from_base : Config → Start → Base → Course
from_base config s b =
    record { config = config; freed = 0; entries = s.entries; kinds = s.kinds; handed = s.handed; base = b; events = [] }

-- it goes on amid its jobs, where what a trim gives back was given back
abbrev pub widened : Course → Course
widened c = record c { config = wider (given c) c.config; freed = given c + c.freed }

-- what it comes to with one segment more
abbrev pub course_from : Begin → Config → Start → Course → Course
course_from (AtBase b) config s was = from_base config s b
course_from (Amid since freed) config s was = widened was

-- what the run of these lines has come to
abbrev pub course_of : List Item → Course
course_of [] = no_course
course_of (OfStart s ∷ is) = course_from s.begin (head_of (present is)).config s (course_of is)
course_of (OfEvent e ∷ is) = record (course_of is) { events = e ∷ (course_of is).events }
course_of (_ ∷ is) = course_of is

-- what it leaves for a segment that begins from a base, and for one that begins amid its jobs
abbrev pub rested : Course → Start
rested c = record {
  entries = c.entries + length c.events;
  kinds = c.kinds + kinds_in c.events;
  handed = c.handed + handed_in c.events;
  begin = AtBase (rotated (state_at c));
}

abbrev pub amid : Course → Start
amid c = record {
  entries = c.entries + length c.events;
  kinds = c.kinds + kinds_in c.events;
  handed = c.handed + handed_in c.events;
  begin = Amid (length c.events) (given c + c.freed);
}

-- a segment that is over: its head, and the digest that it ends in
pub record Past : Type 0 where
  pub head : Head
  pub digest : List ℕ

abbrev pub past_config : Option Past → Option Config
past_config None = None
past_config (Some past) = Some past.head.config

abbrev pub past_digest : Option Past → Option (List ℕ)
past_digest None = None
past_digest (Some past) = Some past.digest

-- the segment that was over last
abbrev pub past_of : List Item → Option Past
past_of [] = None
past_of (OfLast l ∷ is) = Some (record { head = head_of (present is); digest = l.digest })
past_of (_ ∷ is) = past_of is

-- no job is held, and the last acceptance number has 64 bits
abbrev pub IsAtRest : State Outline → Type 0
IsAtRest v = (v.jobs ≡ []) × (v.accepted < 2 ^ 64)

-- a segment may end: by version 1 where the spool is at rest
abbrev pub MayEnd : Version → State Outline → Type 0
MayEnd version.One v = IsAtRest v
MayEnd version.Two v = Unit {0}

-- a segment begins from what the spool that is at rest leaves
abbrev pub Rests : Course → Start → Type 0
Rests c s = IsAtRest (state_at c) × (s ≡ rested c)

-- a segment begins amid the jobs, where the account has no more entries than a number of a configuration may say
abbrev pub GoesAmid : Course → Start → Type 0
GoesAmid c s = (given c + c.config.account ≤ 2 ^ 62) × (s ≡ amid c)

-- a segment begins from what its run has come to
abbrev pub BeginsFrom : Course → Head → Type 0
BeginsFrom c next = Rests c next.start ⊎ ((next.origin.version ≡ version.Two) × GoesAmid c next.start)

-- a segment follows on one of this head and this digest, whose run has come to this: it names the digest, and either goes on with
-- the run or begins the next one
abbrev pub Follows : Past → Course → (next : Head) → Type 0
Follows past c next =
    (next.origin.previous ≡ Some past.digest) × ((GoesOn past.head next × BeginsFrom c next) ⊎ RunFollows past.head next)

-- a segment names the digest that is asked for
abbrev pub NamesAsked : (after : Option (List ℕ)) → (next : Head) → Type 0
NamesAsked None next = Unit {0}
NamesAsked (Some digest) next = next.origin.previous ≡ Some digest

-- it begins from a base that its configuration may have
abbrev pub BeginsFitly : Config → Begin → Type 0
BeginsFitly config (AtBase b) = FitsConfig config b
BeginsFitly config (Amid since freed) = ⊥

-- the first segment that is read may come: it names the digest that is asked for, and begins from a base; and one that has none
-- before it, or the number 1, begins a run
abbrev pub MayBegin : (after : Option (List ℕ)) → (next : Head) → Type 0
MayBegin after next =
    NamesAsked after next × BeginsFitly next.config next.start.begin
    × ((next.origin.previous ≡ None) ⊎ (next.origin.segment ≡ 1) → BeginsRun next.origin next.start)

-- a segment may come: one that follows on the last, or as the first one
abbrev pub MayFollow : (after : Option (List ℕ)) (past : Option Past) → Course → (next : Head) → Type 0
MayFollow after None c next = MayBegin after next
MayFollow after (Some past) c next = Follows past c next

-- what is asked of a line beside that it may stand behind those of its segment: the last one of a head ends one that may
-- come, an entry may come in a legal account, and a segment that ends may end
abbrev pub Meets : (after : Option (List ℕ)) (is : List Item) → Item → Type 0
Meets after is (OfStart s) = MayFollow after (past_of is) (course_of is) (with_line (OfStart s) (head_of (present is)))
Meets after is (OfEvent e) = May octets (state_at (course_of is)) e
Meets after is (OfLast l) = MayEnd (head_of (present is)).origin.version (state_at (course_of is))
Meets after is _ = Unit {0}

-- a line may come behind these
abbrev pub MayCome : (after : Option (List ℕ)) (is : List Item) → Item → Type 0
MayCome after is i = MayStand (present is) i × Meets after is i

-- each line may come behind those before it, where the first segment names a digest if there is one
abbrev pub AreAudited : (after : Option (List ℕ)) → List Item → Type 0
AreAudited after [] = Unit {0}
AreAudited after (i ∷ is) = MayCome after is i × AreAudited after is

-- the digest that the segment ends in that was over last
abbrev pub last_digest : List Item → Option (List ℕ)
last_digest [] = None
last_digest (OfLast l ∷ is) = Some l.digest
last_digest (_ ∷ is) = last_digest is

-- the configuration that was read last
abbrev pub last_config : List Item → Option Config
last_config [] = None
last_config (OfConfig c ∷ is) = Some c
last_config (_ ∷ is) = last_config is

-- How a machine's fields stand for how far a session was read.
use Rattle.std.specs.Prelude.{◌≡◌, ℕ, List, [], ◌∷◌, ◌≤◌, ◌<◌, Option, Some, None, length, if◌then◌else◌, vec_capacity, ◌+◌}
use Rattle.lpd_values.specs.declared.limits.TheConstants.{MAX_LINE, MAX_CONTROL_TEXT}
use Rattle.std.specs.List.{prefix_len}
use Rattle.lpd_values.specs.declared.refusal.Refusal.TheVariants.{Memory}
use Rattle.lpd_commands.specs.declared.sub.Sub.{Sub}
use Rattle.lpd_commands.specs.declared.sub.Sub.TheVariants as sub
use Rattle.page_pool.specs.Page.{Page}
use Rattle.receiver.specs.Script.{BeginFile, Item, Asks, Acks, Refuses, PageOctets, ControlText, Over, data_file}
use Rattle.receiver.specs.Reading.{Progress, Kind, Admission, Opening, Lending, Ending, Aborting, Plain, is_inner}
use Rattle.receiver.specs.declared.need.Need.{Need}
use Rattle.receiver.specs.declared.need.Need.TheVariants as need
use Rattle.receiver.specs.declared.machine.Machine.{Machine}
use Rattle.receiver.specs.declared.machine.Phase.{Phase}
use Rattle.receiver.specs.declared.machine.Phase.TheVariants as phase
use Rattle.receiver.specs.declared.machine.Owed.{Owed}
use Rattle.receiver.specs.declared.machine.Owed.TheVariants as owed

abbrev pub size_of : Option Page → ℕ
size_of None = 0
size_of (Some page) = page.page_size

abbrev pub octets_in : Option Page → List ℕ
octets_in None = []
octets_in (Some page) = page.octets

-- what is left of the block in a phase, with a page of this size in hand
abbrev pub items_of : ℕ → Phase → List Item
items_of size phase.Line = []
items_of size (phase.Begin name count) = Asks (BeginFile name count) ∷ Acks ∷ data_file count
items_of size (phase.AckBegin count) = Acks ∷ data_file count
items_of size (phase.Contents left) = data_file left
items_of size (phase.Page piece left) = PageOctets piece size ∷ data_file left
items_of size (phase.AckControl name count) = Acks ∷ ControlText name count ∷ Acks ∷ []
items_of size (phase.Text name count) = ControlText name count ∷ Acks ∷ []
items_of size phase.AckLast = Acks ∷ []
items_of size (phase.Refusing refusal) = Refuses refusal ∷ []
items_of size phase.Over = Over ∷ []

abbrev pub owed_of : List ℕ → Owed → Option Kind
owed_of queue owed.Nothing = None
owed_of queue owed.Admission = Some (Admission queue)
owed_of queue owed.Opening = Some Opening
owed_of queue owed.Lending = Some Lending
owed_of queue owed.Ending = Some Ending
owed_of queue owed.Aborting = Some Aborting
owed_of queue owed.Plain = Some Plain

-- the octets that were consumed of what is read next
abbrev pub tail_of : List ℕ → List ℕ → Option Page → Phase → List ℕ
tail_of line text ticket phase.Line = line
tail_of line text ticket (phase.Text name count) = text
tail_of line text ticket (phase.Page piece left) = octets_in ticket
tail_of line text ticket _ = []

-- where a machine is
abbrev pub state_of : Machine → Progress
state_of m =
    record {
      queue = if m.admitted then Some m.queue else None;
      job = m.job;
      items = items_of (size_of m.ticket) m.phase;
      owed = owed_of m.queue m.owed;
      tail = tail_of m.line.items m.text.items m.ticket m.phase;
    }

pub record HoldsPage (ticket : Option Page) (piece : ℕ) : Type 0 where
  pub page : Page
  pub held : ticket ≡ Some page
  pub lacks : length page.octets < piece
  pub fits : piece ≤ page.page_size

-- what is kept in a phase
abbrev pub PhaseHolds : List ℕ → List ℕ → Option Page → Phase → Type 0
PhaseHolds line text ticket phase.Line =
    (prefix_len is_inner line ≡ length line) × (length line ≤ MAX_LINE) × (ticket ≡ None)
PhaseHolds line text ticket (phase.Begin name count) = (0 < count) × (ticket ≡ None)
PhaseHolds line text ticket (phase.AckControl name count) =
    (count ≤ MAX_CONTROL_TEXT) × (ticket ≡ None)
PhaseHolds line text ticket (phase.Text name count) =
    (count ≤ MAX_CONTROL_TEXT) × (length text ≤ count) × (ticket ≡ None)
PhaseHolds line text ticket (phase.Page piece left) = HoldsPage ticket piece
PhaseHolds line text ticket _ = ticket ≡ None

abbrev pub IsContents : Phase → Type 0
IsContents (phase.Contents left) = 0 < left
IsContents _ = ⊥

abbrev pub IsBetween : Phase → Type 0
IsBetween phase.Line = ⊥
IsBetween (phase.Text name count) = ⊥
IsBetween (phase.Page piece left) = ⊥
IsBetween _ = Unit {0}

-- where a request waits for its answer
abbrev pub OwedHolds : Phase → Owed → Type 0
OwedHolds phase owed.Nothing = Unit {0}
OwedHolds phase owed.Lending = IsContents phase
OwedHolds phase _ = IsBetween phase

pub record IsSound (m : Machine) : Type 0 where
  pub line_room : MAX_LINE + 1 ≤ vec_capacity m.line
  pub text_room : MAX_CONTROL_TEXT ≤ vec_capacity m.text
  pub phase : PhaseHolds m.line.items m.text.items m.ticket m.phase
  pub owing : OwedHolds m.phase m.owed

-- a data file that a subcommand begins has octets
abbrev pub HasCount : Sub → Type 0
HasCount (sub.DataFile count name) = 0 < count
HasCount _ = Unit {0}

-- a line has ended
pub record IsAtLineEnd (m : Machine) : Type 0 where
  pub line_room : MAX_LINE + 1 ≤ vec_capacity m.line
  pub text_room : MAX_CONTROL_TEXT ≤ vec_capacity m.text
  pub ticket : m.ticket ≡ None
  pub nothing : m.owed ≡ owed.Nothing
  pub phase : m.phase ≡ phase.Line

-- a job is asked for, and the block goes on in this phase, or memory was refused
abbrev pub OpensOrNot : Machine → Phase → Need → Machine → Type 0
OpensOrNot old next (need.Open queue) new =
    (queue ≡ old.queue) × (new ≡ record old { phase = next; owed = owed.Opening })
OpensOrNot old next (need.Fault refusal) new =
    (refusal ≡ Memory) × (new ≡ record old { phase = phase.Over })
OpensOrNot old next _ new = ⊥

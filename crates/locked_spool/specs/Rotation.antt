-- What a rotation hands out, and what it leaves.
use Rattle.std.specs.Prelude.{◌≡◌, ◌⊎◌, ℕ, ◌+◌, ◌-◌, ◌*◌, ◌<◌, ◌≤◌, ◌^◌, ◌++◌, List, [], Result, Ok, Err, length, reverse, codes}
use Rattle.account.specs.Seen.{base_seen, history}
use Rattle.account.specs.declared.entry.Outline.{Outline}
use Rattle.account.specs.declared.segment.Segment.{Segment}
use Rattle.spool_history.specs.Events.{Event}
use Rattle.spool_history.specs.Now.{now}
use Rattle.spool_history.specs.Rotated.{rotated}
use Rattle.spool_calls.specs.Calls as calls
use Rattle.spool_calls.specs.Kept.{Leaves}
use Rattle.spool_laws.specs.Freeing.{still_reserved, wider}
use Rattle.locked_spool.specs.Held.{Held}
use Rattle.locked_spool.specs.Segments.{all_entries, all_handed, all_kinds}
use Rattle.locked_spool.specs.declared.rotating.RotateError.{RotateError}
use Rattle.locked_spool.specs.declared.rotating.RotateError.TheVariants.{JobsHeld, AccountFull, Memory}

-- the number of a refusal
abbrev pub number_of : RotateError → ℕ
number_of JobsHeld = 14
number_of AccountFull = 3
number_of Memory = 12

-- how it is told: its number and its name
abbrev pub error_words : RotateError → List ℕ
error_words JobsHeld = codes "14 JobsHeld"
error_words AccountFull = codes "3 AccountFull"
error_words Memory = codes "12 Memory"

-- these entries tell of the events of an account that no trim has handed out
pub record AreRest (h : Held) (kept : List (Event Outline)) : Type 0 where
  pub past : List (Event Outline)
  pub all : kept ++ past ≡ h.events
  pub since : length past ≡ h.since

-- the segment is this account with its base and its number, and what all earlier segments came to
pub record IsSegmentOf (h : Held) (s : Segment) : Type 0 where
  pub number : s.number ≡ h.number
  pub before : s.before ≡ h.before
  pub kinds_before : s.kinds_before ≡ h.kinds_before
  pub handed_before : s.handed_before ≡ h.handed_before
  pub base : base_seen s.base ≡ h.base
  pub since : s.since ≡ h.since
  pub freed : s.freed ≡ h.freed
  pub entries : AreRest h (history (reverse s.entries.items))

-- after it an account of no entries begins from the base that the old one leaves
pub record BeginsAfter (old new : Held) (s : Segment) : Type 0 where
  pub base : new.base ≡ rotated (now old.core.config old.base old.events)
  pub events : new.events ≡ []
  pub since : new.since ≡ 0
  pub freed : new.freed ≡ 0
  pub number : new.number ≡ old.number + 1
  pub before : new.before ≡ all_entries s
  pub kinds_before : new.kinds_before ≡ all_kinds s
  pub handed_before : new.handed_before ≡ all_handed s

-- the next segment has a number, and the sums over all segments stay within numbers
abbrev pub HasNumbers : Held → Type 0
HasNumbers h = (h.number + 1 < 2 ^ 64) × (13 * (h.before + (length h.events - h.since) + (h.core.config.account - h.freed)) < 2 ^ 64)

-- the answer to a rotation
abbrev pub Rotates : (old new : Held) → Result Segment RotateError → Type 0
Rotates old new (Ok segment) =
    (old.core.book.jobs ≡ []) × HasNumbers old × IsSegmentOf old segment × BeginsAfter old new segment
Rotates old new (Err JobsHeld) = (old.core.book.jobs ≡ [] → ⊥) × (new ≡ old)
Rotates old new (Err AccountFull) = (old.core.book.jobs ≡ []) × (HasNumbers old → ⊥) × (new ≡ old)
Rotates old new (Err Memory) = (old.core.book.jobs ≡ []) × HasNumbers old × (new ≡ old)

-- the core's own step of a rotation, and none where it is refused
abbrev pub LeavesRotated : (old new : Held) → Result Segment RotateError → Type 0
LeavesRotated old new (Ok segment) = calls.IsRight old.core (λ d b h. calls.Rotates d b h old.core new.core)
LeavesRotated old new (Err e) = new.core ≡ old.core

-- what a trim gives back: of what is counted and wasn't given back yet all but what the held jobs and the stopped printers may
-- still add
abbrev pub gives_back : Held → ℕ
gives_back h = h.core.reserved - h.freed - still_reserved (now h.core.config h.base h.events)

-- with it the account has no more entries than a number of a configuration may say, and what remains counted is one
abbrev pub CanTrim : Held → Type 0
CanTrim h =
    HasNumbers h × (gives_back h + h.core.config.account ≤ 2 ^ 62) × (h.core.reserved - h.freed - gives_back h + 1 < 2 ^ 64)

-- after a trim the account goes on with no entries there: all of it was handed out; and it is larger by what was given back
pub record GoesOn (old new : Held) (s : Segment) : Type 0 where
  pub base : new.base ≡ old.base
  pub events : new.events ≡ old.events
  pub since : new.since ≡ length old.events
  pub freed : new.freed ≡ gives_back old + old.freed
  pub core : new.core ≡ record old.core { config = wider (gives_back old) old.core.config }
  pub number : new.number ≡ old.number + 1
  pub before : new.before ≡ all_entries s
  pub kinds_before : new.kinds_before ≡ all_kinds s
  pub handed_before : new.handed_before ≡ all_handed s

-- the answer to a trim
abbrev pub Trims : (old new : Held) → Result Segment RotateError → Type 0
Trims old new (Ok segment) = CanTrim old × IsSegmentOf old segment × GoesOn old new segment
Trims old new (Err JobsHeld) = ⊥
Trims old new (Err AccountFull) = (CanTrim old → ⊥) × (new ≡ old)
Trims old new (Err Memory) = CanTrim old × (new ≡ old)

-- at least so many entries are counted that weren't given back; and no job is held, or a trim gives so many back
abbrev pub MayKeep : Held → (least : ℕ) → Type 0
MayKeep h least = (least ≤ h.core.reserved - h.freed) × ((h.core.book.jobs ≡ []) ⊎ (least ≤ gives_back h))

-- a rotation where no job is held, and else a trim
abbrev pub Keeps : (old new : Held) → Result Segment RotateError → Type 0
Keeps old new answer =
    ((old.core.book.jobs ≡ []) × Rotates old new answer) ⊎ ((old.core.book.jobs ≡ [] → ⊥) × Trims old new answer)

-- and each history that leaves the core where it was leaves it where it is then
abbrev pub LeavesTrimmed : (old new : Held) → Type 0
LeavesTrimmed old new = calls.IsRight old.core (λ d b h. Leaves d b h new.core)

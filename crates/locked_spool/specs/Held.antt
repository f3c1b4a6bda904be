-- What the lock keeps.
use Rattle.std.specs.Prelude.{◌≡◌, ℕ, ◌+◌, ◌*◌, ◌<◌, ◌≤◌, ◌^◌, ◌==◌, ◌&&◌, ◌++◌, Bool, true, List, count_by, length}
use Rattle.account.specs.declared.entry.Outline.{Outline}
use Rattle.account.specs.Kinds.{kinds_in, handed_in}
use Rattle.config_values.specs.Config.{Config, IsQueue}
use Rattle.config_values.specs.Ranges.{IsConfig}
use Rattle.spool_history.specs.Base.{Base}
use Rattle.spool_history.specs.Events.{Event}
use Rattle.spool_history.specs.Now.{Printer, now}
use Rattle.spool_laws.specs.Freeing.{MayFree, wider}
use Rattle.spool_laws.specs.Reserve.{CountsStops}
use Rattle.spool_calls.specs.Looks.{size}
use Rattle.spool_calls.specs.Looks.Detail.{Outlines}
use Rattle.spool_calls.specs.Kept.{Kept, Leaves}
use Rattle.spool_ledgers.specs.Sums.{Sums}

-- a spool with its account: the events since the last rotation, the newest first, the base from which they begin, and what
-- all earlier segments of the account came to
pub record Held : Type 0 where
  pub core : Kept
  pub base : Base
  pub events : List (Event Outline)
  -- how many of these were handed out by trims, and how much of the counted reserve was given back
  pub since : ℕ
  pub freed : ℕ
  -- the number of this segment, from 1
  pub number : ℕ
  -- how many entries earlier segments have, the sum of their kind numbers, and how many hand-outs
  pub before : ℕ
  pub kinds_before : ℕ
  pub handed_before : ℕ

-- how many printers of a queue are stopped after these events
abbrev pub stopped_of : Config → Base → List (Event Outline) → (queue : ℕ) → ℕ
stopped_of c b h q = count_by (λ (p : Printer Outline). (p.queue == q) && p.stopped) (now c b h).printers

-- where a printer of some queue is stopped, this is marked; where none is, it may be marked all the same
abbrev pub AreMarked : Config → Base → List (Event Outline) → (marked : Bool) → Type 0
AreMarked c b h marked = (q : ℕ) → IsQueue c q → 0 < stopped_of c b h q → marked ≡ true

-- these are the events whose entries are there: the others were handed out, and so much of the counted reserve may be
-- given back as was
pub record AreKept (h : Held) (kept : List (Event Outline)) : Type 0 where
  pub past : List (Event Outline)
  pub all : kept ++ past ≡ h.events
  pub since : length past ≡ h.since
  pub frees : MayFree (size Outlines) h.core.config h.base past h.freed

-- what the lock keeps of a spool of this configuration
pub record IsHeld (config : Config) (h : Held) (kept : List (Event Outline)) (room : ℕ) (totals : Sums) (marked : Bool) : Type 0 where
  -- it is of this configuration, which is in its ranges, with an account that is larger by what was given back
  pub config_is : h.core.config ≡ wider h.freed config
  pub ranges : IsConfig config
  pub core_ranges : IsConfig h.core.config
  -- the account is legal from its base, and the core is where base and account leave it
  pub left : Leaves Outlines h.base h.events h.core
  -- the account has room for all that the core has counted and that wasn't given back, and the close
  pub counts : CountsStops config h.base
  pub kept_is : AreKept h kept
  pub freed_is : h.freed ≤ h.core.reserved
  pub room_is : h.core.reserved + 1 ≤ room + h.freed
  -- the ledgers' totals are those of all segments together
  pub entries : totals.entries ≡ h.before + length kept
  pub kinds : totals.kinds ≡ h.kinds_before + kinds_in kept
  pub handed : totals.handed ≡ h.handed_before + handed_in kept
  -- earlier segments stay within numbers
  pub few : 13 * h.before < 2 ^ 64
  pub few_kinds : h.kinds_before ≤ 13 * h.before
  pub few_handed : h.handed_before ≤ h.before
  pub few_since : h.since ≤ h.before
  -- no printer is stopped that isn't marked
  pub stops : AreMarked config h.base h.events marked

-- Which segments begin a run, and which may stand behind which.
use Rattle.std.specs.Prelude.{◌≡◌, ◌≤◌, ◌+◌, ℕ, Bool, true, false, count_by, length, not}
use Rattle.std.specs.List.{list_all}
use Rattle.config_values.specs.Config.{Config, printer_count}
use Rattle.spool_history.specs.Base.{Base}
use Rattle.segment_text.specs.Heads.{Begin, Head, Origin, Start}
use Rattle.segment_text.specs.Heads.Begin.{AtBase, Amid}

-- nothing has happened, and no printer is stopped
abbrev pub IsFirstBase : Base → Type 0
IsFirstBase base =
    (base.accepted ≡ 0) × (base.reserved ≡ 0) × (base.closed ≡ false) × (list_all not base.stopped ≡ true)

abbrev pub BeginsFirst : Begin → Type 0
BeginsFirst (AtBase base) = IsFirstBase base
BeginsFirst (Amid since freed) = ⊥

-- a run begins: its number is 1, nothing is before it, and nothing has happened
abbrev pub BeginsRun : (origin : Origin) (start : Start) → Type 0
BeginsRun origin start =
    (origin.segment ≡ 1) × (start.entries ≡ 0) × (start.kinds ≡ 0) × (start.handed ≡ 0) × BeginsFirst start.begin

-- a base of a spool of this configuration: it tells of no more printers than there are, and counts one entry for each stopped one
abbrev pub FitsConfig : Config → Base → Type 0
FitsConfig c base =
    (length base.stopped ≤ printer_count c) × (base.reserved ≡ count_by (λ (stopped : Bool). stopped) base.stopped)

-- a run goes on: the next number, and the same version, configuration and printers
abbrev pub GoesOn : (head next : Head) → Type 0
GoesOn head next =
    (next.origin.run ≡ head.origin.run) × (next.origin.segment ≡ head.origin.segment + 1) × (next.origin.version ≡ head.origin.version)
    × (next.config ≡ head.config) × (next.printers ≡ head.printers)

-- the next run begins
abbrev pub RunFollows : (head next : Head) → Type 0
RunFollows head next = (next.origin.run ≡ head.origin.run + 1) × BeginsRun next.origin next.start

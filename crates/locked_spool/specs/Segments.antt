-- What a segment of an account says.
use Rattle.std.specs.Prelude.{◌≡◌, ℕ, ◌+◌, ◌++◌, List, length, reverse}
use Rattle.account.specs.Seen.{base_seen, history, octets}
use Rattle.account.specs.Kinds.{kinds_in, handed_in}
use Rattle.account.specs.declared.entry.Outline.{Outline}
use Rattle.account.specs.declared.segment.Segment.{Segment}
use Rattle.config_values.specs.Config.{Config}
use Rattle.spool_history.specs.Events.{Event}
use Rattle.spool_history.specs.Legal.{IsLegal}
use Rattle.spool_laws.specs.Freeing.{wider}
use Rattle.spool_core.specs.Headline.{Headline}

-- its events, the newest first
abbrev pub events_of : Segment → List (Event Outline)
events_of s = history (reverse s.entries.items)

-- P holds of its events with those of earlier segments since its base, which are as many as it tells
abbrev pub WithPast : Segment → (List (Event Outline) → Type 0) → Type 0
WithPast s P = (past : List (Event Outline)) × (length past ≡ s.since) × P (events_of s ++ past)

-- in a spool of this configuration it is legal from its base, where the account may be larger by what was given back
abbrev pub IsLegalSegment : Config → Segment → Type 0
IsLegalSegment c s = WithPast s (IsLegal octets (wider s.freed c) (base_seen s.base))

-- and what holds of each history that leaves a core holds of it
abbrev pub HasHeadline : Config → Segment → Type 0
HasHeadline c s = WithPast s (Headline (wider s.freed c) (base_seen s.base))

-- with all earlier segments: how many entries, the sum of their kind numbers, and how many hand-outs
abbrev pub all_entries : Segment → ℕ
all_entries s = s.before + length s.entries.items

abbrev pub all_kinds : Segment → ℕ
all_kinds s = s.kinds_before + kinds_in (events_of s)

abbrev pub all_handed : Segment → ℕ
all_handed s = s.handed_before + handed_in (events_of s)

-- What a line means.
use Rattle.std.specs.Prelude.{◌≡◌, ℕ, List, Some}
use Rattle.spool_history.specs.Events.{Event}
use Rattle.account.specs.declared.entry.Entry.{Entry}
use Rattle.account.specs.declared.entry.Outline.{Outline}
use Rattle.account.specs.Seen.{event_seen}
use Rattle.account_text.specs.Lines.{event_line}
use Rattle.account_text.specs.Reading.{event_of}
use Rattle.account_text.specs.Told.{IsTold}

-- a line means an entry where it is the line that is written for it
abbrev pub Means : List ℕ → Entry → Type 0
Means line e = line ≡ event_line (event_seen e)

-- no event that an entry can tell of has this line
abbrev pub MeansNothing : List ℕ → Type 0
MeansNothing line = (e : Event Outline) → IsTold e → line ≡ event_line e → ⊥

-- what is written for an event that an entry can tell of is read back as that
abbrev pub AreReadBack : Type 0
AreReadBack = (e : Event Outline) → IsTold e → event_of (event_line e) ≡ Some e

-- two such events never have one line
abbrev pub AreApart : Type 0
AreApart = (a b : Event Outline) → IsTold a → IsTold b → event_line a ≡ event_line b → a ≡ b

-- Ledgers before they are opened, and the types that are to stand for them.
use Rattle.std.specs.Prelude.{◌≡◌, ℕ, ◌+◌}
use Rattle.config_values.specs.Config.{Config, printer_count}
use Rattle.spool_ledgers.specs.declared.blanks.Blanks.{Blanks}

-- which ledger a type stands for: its name, and into how many parts its shares are cut
pub record Mark : Type 0 where
  pub name : ℕ
  pub parts : ℕ

abbrev pub mark : ℕ → ℕ → Mark
mark name parts = record { name = name; parts = parts }

-- each is cut into so many parts
abbrev pub HaveParts : Blanks → ℕ → Type 0
HaveParts b n = (b.entries.parts ≡ n) × (b.kinds.parts ≡ n) × (b.handed.parts ≡ n)

-- types that stand for these ledgers: of the entries, of their kind numbers, and of the hand-outs, all of which have as many parts
abbrev pub AreOf : Blanks → (entries kinds handed : Mark) → Type 0
AreOf b entries kinds handed =
    ((b.entries.name ≡ entries.name) × (b.entries.parts ≡ entries.parts))
    × ((b.kinds.name ≡ kinds.name) × (b.kinds.parts ≡ kinds.parts))
    × ((b.handed.name ≡ handed.name) × (b.handed.parts ≡ handed.parts))
    × ((kinds.parts ≡ entries.parts) × (handed.parts ≡ entries.parts))

-- the same of a spool of this configuration with so many sessions: its seats have a part each, and the first type names the configuration
abbrev pub AreFor : Blanks → (config : Config) → (sessions : ℕ) → (named : Config) → (entries kinds handed : Mark) → Type 0
AreFor b config sessions named entries kinds handed =
    AreOf b entries kinds handed
    × (config ≡ named)
    × (entries.parts ≡ sessions + printer_count config)

-- The forms of a log's lines.
use Rattle.std.specs.Prelude.{◌≡◌, ℕ, List, codes}
use Rattle.program_edge.specs.declared.settings.LogForm.{LogForm}
use Rattle.program_edge.specs.declared.settings.LogForm.TheVariants.{Journal, Plain, Time}

-- a text names a form; none names the one without anything before a line
abbrev pub IsFormName : List ℕ → LogForm → Type 0
IsFormName text Plain = ⊥
IsFormName text Time = text ≡ codes "time"
IsFormName text Journal = text ≡ codes "journal"

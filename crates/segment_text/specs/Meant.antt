-- What the lines mean.
use Rattle.std.specs.Prelude.{◌≡◌, ℕ, List, Some}
use Rattle.config_values.specs.Config.{Config}
use Rattle.config_values.specs.Ranges.{IsConfig}
use Rattle.segment_text.specs.Heads.{Origin, Printer, Start, Last, origin_line, config_line, printer_line, start_line, last_line}
use Rattle.segment_text.specs.Reading.{origin_of, config_of, printer_of, start_of, last_of}
use Rattle.segment_text.specs.Seen.{IsOrigin, IsPrinter, IsStart, IsLast}

-- no such value that can be told has this line
abbrev pub IsNoOrigin : List ℕ → Type 0
IsNoOrigin line = (v : Origin) → IsOrigin v → line ≡ origin_line v → ⊥

abbrev pub IsNoConfig : List ℕ → Type 0
IsNoConfig line = (v : Config) → IsConfig v → line ≡ config_line v → ⊥

abbrev pub IsNoPrinter : List ℕ → Type 0
IsNoPrinter line = (v : Printer) → IsPrinter v → line ≡ printer_line v → ⊥

abbrev pub IsNoStart : List ℕ → Type 0
IsNoStart line = (v : Start) → IsStart v → line ≡ start_line v → ⊥

abbrev pub IsNoLast : List ℕ → Type 0
IsNoLast line = (v : Last) → IsLast v → line ≡ last_line v → ⊥

-- what is written is read back as the same value
abbrev pub OriginIsReadBack : Type 0
OriginIsReadBack = (v : Origin) → IsOrigin v → origin_of (origin_line v) ≡ Some v

abbrev pub ConfigIsReadBack : Type 0
ConfigIsReadBack = (v : Config) → IsConfig v → config_of (config_line v) ≡ Some v

abbrev pub PrinterIsReadBack : Type 0
PrinterIsReadBack = (v : Printer) → IsPrinter v → printer_of (printer_line v) ≡ Some v

abbrev pub StartIsReadBack : Type 0
StartIsReadBack = (v : Start) → IsStart v → start_of (start_line v) ≡ Some v

abbrev pub LastIsReadBack : Type 0
LastIsReadBack = (v : Last) → IsLast v → last_of (last_line v) ≡ Some v

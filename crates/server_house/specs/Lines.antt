-- The lines that a server prints.
use Rattle.std.specs.Prelude.{◌≡◌, ◌++◌, ◌∷◌, ℕ, List, [], Option, Result, OnOk, IfErr, codes}
use Rattle.std.specs.Fmt.{decimal}
use Rattle.lpd_commands.specs.Ends.{Writes}
use Rattle.server_house.specs.Faults.{IsRunningFault, write_faults}
use Rattle.server_house.specs.declared.faults.ServerFault.{ServerFault}
use Rattle.server_house.specs.declared.faults.ServerFault.TheVariants.{Opening}
use Rattle.server_house.specs.declared.lines.PrintedLine.{PrintedLine}
use Rattle.server_house.specs.declared.lines.PrintedLine.TheVariants.{Closed, Listening, Rotated}

abbrev pub line_text : PrintedLine → List ℕ
line_text (Listening port) = codes "listening " ++ decimal port
line_text (Rotated number entries) = codes "rotated " ++ decimal number ++ codes " entries " ++ decimal entries
line_text (Closed entries) = codes "closed entries " ++ decimal entries

abbrev pub line_octets : PrintedLine → List ℕ
line_octets line = line_text line ++ 10 ∷ []

-- the lines of rotations: the number and the entries of each segment, in order
abbrev pub rotation_octets : List (ℕ × ℕ) → List ℕ
rotation_octets [] = []
rotation_octets (segment ∷ more) = line_octets (Rotated segment.0 segment.1) ++ rotation_octets more

-- nothing was written but lines of rotations
abbrev pub WritesRotations : Option (List ℕ) → Option (List ℕ) → Type 0
WritesRotations was now = (segments : List (ℕ × ℕ)) × Writes was now (rotation_octets segments)

-- from an output with these octets and faults to one with those it was told of rotations: where that went well nothing else was written, and else it is told what failed
unfoldable pub TellsRotations : Option (List ℕ) → ℕ → Option (List ℕ) → ℕ → Result (Unit {0}) ServerFault → Type 0
TellsRotations was faults now now_faults told =
    OnOk told (WritesRotations was now) × (now_faults ≡ write_faults faults told) × IfErr told IsRunningFault

-- a server that ended well has written the port that it listens at, its rotations, and the entries of its whole account
abbrev pub WritesAll : Option (List ℕ) → Option (List ℕ) → Type 0
WritesAll was now = (port : ℕ) × (segments : List (ℕ × ℕ)) × (entries : ℕ) × Writes was now (line_octets (Listening port) ++ (rotation_octets segments ++ line_octets (Closed entries)))

-- nothing was written where something couldn't be opened at the start
abbrev pub IsQuiet : Option (List ℕ) → Option (List ℕ) → ServerFault → Type 0
IsQuiet was now (Opening opening) = now ≡ was
IsQuiet was now _ = Unit {0}

-- What holds of all lines.
use Rattle.std.specs.Prelude.{◌≡◌, ◌↔◌, ℕ, List, Ok, Err, IsTrue}
use Rattle.lpd_values.specs.Decided.{IsDecided}
use Rattle.lpd_values.specs.declared.refusal.Refusal.{Refusal}
use Rattle.lpd_commands.specs.declared.command.Command.{Command}
use Rattle.lpd_commands.specs.declared.sub.Sub.{Sub}
use Rattle.lpd_commands.specs.Line.{command_of, sub_of}
use Rattle.lpd_commands.specs.Layout.{MeansCommand, RefusesCommand, MeansSub, RefusesSub}
use Rattle.lpd_commands.specs.Written.{command_line, command_has_line, sub_line, sub_has_line}

-- the function gives exactly the meaning, and exactly the refusal
abbrev pub CommandIsExact : List ℕ → Type 0
CommandIsExact line =
    ((command : Command) → (command_of line ≡ Ok command) ↔ MeansCommand line command)
    × ((refusal : Refusal) → (command_of line ≡ Err refusal) ↔ RefusesCommand line refusal)

abbrev pub SubIsExact : List ℕ → Type 0
SubIsExact line =
    ((sub : Sub) → (sub_of line ≡ Ok sub) ↔ MeansSub line sub)
    × ((refusal : Refusal) → (sub_of line ≡ Err refusal) ↔ RefusesSub line refusal)

-- a line has one meaning or one refusal, and not both
abbrev pub CommandIsDecided : List ℕ → Type 0
CommandIsDecided line = IsDecided (MeansCommand line) (RefusesCommand line)

abbrev pub SubIsDecided : List ℕ → Type 0
SubIsDecided line = IsDecided (MeansSub line) (RefusesSub line)

-- what is written is read back
abbrev pub CommandIsReadBack : Command → Type 0
CommandIsReadBack command =
    IsTrue (command_has_line command) → command_of (command_line command) ≡ Ok command

abbrev pub SubIsReadBack : Sub → Type 0
SubIsReadBack sub = IsTrue (sub_has_line sub) → sub_of (sub_line sub) ≡ Ok sub

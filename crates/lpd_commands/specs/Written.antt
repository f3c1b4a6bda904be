-- The lines that are written.
use Rattle.std.specs.Prelude.{ℕ, Bool, true, ◌&&◌, nat_lt, nat_le, ◌^◌, List, [], ◌∷◌, ◌++◌, length, if◌then◌else◌}
use Rattle.std.specs.List.{list_all}
use Rattle.std.specs.Fmt.{decimal}
use Rattle.lpd_values.specs.Kinds.{is_word_octet}
use Rattle.lpd_values.specs.Name.{is_control_name, is_data_name}
use Rattle.lpd_values.specs.declared.limits.TheConstants.{MAX_LINE, MAX_COUNT_DIGITS}
use Rattle.lpd_commands.specs.declared.command.Command.{Command}
use Rattle.lpd_commands.specs.declared.command.Command.TheVariants.{PrintWaiting, Receive, State, Remove}
use Rattle.lpd_commands.specs.declared.sub.Sub.{Sub}
use Rattle.lpd_commands.specs.declared.sub.Sub.TheVariants.{Abort, ControlFile, DataFile}

-- words, each after one space
abbrev pub spaced : List (List ℕ) → List ℕ
spaced [] = []
spaced (word ∷ words) = 32 ∷ (word ++ spaced words)

-- the line of a command, without its LF
abbrev pub command_line : Command → List ℕ
command_line (PrintWaiting queue) = 1 ∷ (queue ++ spaced [])
command_line (Receive queue) = 2 ∷ (queue ++ spaced [])
command_line (State queue list long) = (if long then 4 else 3) ∷ (queue ++ spaced list)
command_line (Remove queue agent list) = 5 ∷ (queue ++ spaced (agent ∷ list))

abbrev pub sub_line : Sub → List ℕ
sub_line Abort = 1 ∷ []
sub_line (ControlFile count name) = 2 ∷ (decimal count ++ spaced (name ∷ []))
sub_line (DataFile count name) = 3 ∷ (decimal count ++ spaced (name ∷ []))

abbrev pub is_word : List ℕ → Bool
is_word s = nat_le 1 (length s) && list_all is_word_octet s

abbrev pub has_words : Command → Bool
has_words (PrintWaiting queue) = is_word queue
has_words (Receive queue) = is_word queue
has_words (State queue list long) = is_word queue && list_all is_word list
has_words (Remove queue agent list) = is_word queue && list_all is_word (agent ∷ list)

-- whether a command has a line: its words are words, and the line isn't too long
abbrev pub command_has_line : Command → Bool
command_has_line command = has_words command && nat_le (length (command_line command)) MAX_LINE

-- whether a subcommand has a line: its count has at most MAX_COUNT_DIGITS digits and isn't a data file's 0, and its name is of its kind
abbrev pub sub_has_line : Sub → Bool
sub_has_line Abort = true
sub_has_line (ControlFile count name) = nat_lt count (10 ^ MAX_COUNT_DIGITS) && is_control_name name
sub_has_line (DataFile count name) =
    nat_lt 0 count && nat_lt count (10 ^ MAX_COUNT_DIGITS) && is_data_name name

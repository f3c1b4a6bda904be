-- What a line means, as a function of its octets.
use Rattle.std.specs.Prelude.{ℕ, Bool, true, false, List, [], ◌∷◌, ◌==◌, ◌||◌, ◌&&◌, nat_lt, length, Result, Ok, Err, if◌then◌else◌, not}
use Rattle.std.specs.List.{list_all}
use Rattle.lpd_values.specs.Kinds.{is_space, is_text_octet}
use Rattle.lpd_values.specs.Pieces.{begins_piece, pieces_of}
pub use Rattle.lpd_values.specs.Digits.{is_count, count_of}
use Rattle.lpd_values.specs.Name.{is_control_name, is_data_name}
use Rattle.lpd_values.specs.declared.limits.TheConstants.{MAX_LINE}
use Rattle.lpd_values.specs.declared.refusal.Refusal.{Refusal}
use Rattle.lpd_values.specs.declared.refusal.Refusal.TheVariants.{LineTooLong, BadCode, BadLine, BadCount, BadName}
use Rattle.lpd_commands.specs.declared.command.Command.{Command}
use Rattle.lpd_commands.specs.declared.command.Command.TheVariants.{PrintWaiting, Receive, State, Remove}
use Rattle.lpd_commands.specs.declared.sub.Sub.{Sub}
use Rattle.lpd_commands.specs.declared.sub.Sub.TheVariants.{Abort, ControlFile, DataFile}

-- whether a text begins with an octet that is no white space
abbrev pub begins_word : List ℕ → Bool
begins_word = begins_piece is_space

-- the words of a text: its longest pieces without white space, in order
abbrev pub words_of : List ℕ → List (List ℕ)
words_of = pieces_of is_space

-- what follows a code that needs words: words and white space alone, with a word at once
abbrev pub is_worded : List ℕ → Bool
is_worded rest = begins_word rest && list_all is_text_octet rest

-- the removal for an agent, the first of these words
abbrev pub removal : List ℕ → List (List ℕ) → Result Command Refusal
removal queue [] = Err BadLine
removal queue (agent ∷ list) = Ok (Remove queue agent list)

-- the command of these words
abbrev pub command_with : ℕ → List (List ℕ) → Result Command Refusal
command_with code [] = Err BadLine
command_with code (queue ∷ operands) =
    if code == 1 then Ok (PrintWaiting queue)
    else if code == 2 then Ok (Receive queue)
    else if code == 3 then Ok (State queue operands false)
    else if code == 4 then Ok (State queue operands true)
    else removal queue operands

abbrev pub command_at : List ℕ → Result Command Refusal
command_at [] = Err BadCode
command_at (code ∷ rest) =
    if code == 0 || nat_lt 5 code then Err BadCode
    else if is_worded rest then command_with code (words_of rest)
    else Err BadLine

-- the command of a line (without its LF), or its first refusal
abbrev pub command_of : List ℕ → Result Command Refusal
command_of line = if nat_lt MAX_LINE (length line) then Err LineTooLong else command_at line

abbrev pub file_with : ℕ → List ℕ → List ℕ → Result Sub Refusal
file_with code count name =
    if not (is_count count) then Err BadCount
    else if code == 2
    then (if is_control_name name then Ok (ControlFile (count_of count) name) else Err BadName)
    else if count_of count == 0 then Err BadCount
    else if is_data_name name then Ok (DataFile (count_of count) name)
    else Err BadName

-- the file subcommand of these words: a count and a name
abbrev pub file_of : ℕ → List (List ℕ) → Result Sub Refusal
file_of code (count ∷ name ∷ []) = file_with code count name
file_of code _ = Err BadLine

abbrev pub sub_at : List ℕ → Result Sub Refusal
sub_at [] = Err BadCode
sub_at (code ∷ rest) =
    if code == 0 || nat_lt 3 code then Err BadCode
    else if code == 1 then (if list_all is_space rest then Ok Abort else Err BadLine)
    else if is_worded rest then file_of code (words_of rest)
    else Err BadLine

-- the subcommand of a line (without its LF), or its first refusal
abbrev pub sub_of : List ℕ → Result Sub Refusal
sub_of line = if nat_lt MAX_LINE (length line) then Err LineTooLong else sub_at line

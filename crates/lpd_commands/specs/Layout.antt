-- How lines are laid out, and which refusal belongs to a line.
use Rattle.std.specs.Prelude.{MatchResult, Result, ◌≡◌, ◌<◌, ◌≤◌, ◌⊎◌, ◌++◌, ℕ, ◌==◌, false, List, [], ◌∷◌, length, IsTrue, if◌then◌else◌}
use Rattle.std.specs.List.{list_all}
use Rattle.lpd_values.specs.Kinds.{is_space, is_word_octet}
use Rattle.lpd_values.specs.Name.{is_control_name, is_data_name}
use Rattle.lpd_values.specs.Digits.{is_count, count_of}
use Rattle.lpd_values.specs.declared.limits.TheConstants.{MAX_LINE}
use Rattle.lpd_values.specs.declared.refusal.Refusal.{Refusal}
use Rattle.lpd_values.specs.declared.refusal.Refusal.TheVariants.{Memory, LineTooLong, BadCode, BadLine, BadCount, BadName}
use Rattle.lpd_commands.specs.declared.command.Command.{Command}
use Rattle.lpd_commands.specs.declared.command.Command.TheVariants.{PrintWaiting, Receive, State, Remove}
use Rattle.lpd_commands.specs.declared.sub.Sub.{Sub}
use Rattle.lpd_commands.specs.declared.sub.Sub.TheVariants.{Abort, ControlFile, DataFile}

-- one or more word octets
abbrev pub IsWord : List ℕ → Type 0
IsWord s = (0 < length s) × IsTrue (list_all is_word_octet s)

-- white space, or nothing
abbrev pub IsBlank : List ℕ → Type 0
IsBlank s = IsTrue (list_all is_space s)

-- operands as they stand in a line: each a word after one or more white space octets, then optional white space
abbrev pub AreLaidOut : List (List ℕ) → List ℕ → Type 0
AreLaidOut [] text = IsBlank text
AreLaidOut (word ∷ words) text =
    (gap : List ℕ) × (rest : List ℕ) × (text ≡ gap ++ (word ++ rest)) × (0 < length gap)
    × IsBlank gap × IsWord word × AreLaidOut words rest

-- a line: a code, at once a word, then operands
abbrev pub IsLine : ℕ → List ℕ → List (List ℕ) → List ℕ → Type 0
IsLine code word operands line =
    (rest : List ℕ) × (line ≡ code ∷ (word ++ rest)) × IsWord word × AreLaidOut operands rest

abbrev pub IsShort : List ℕ → Type 0
IsShort line = length line ≤ MAX_LINE

-- no octet, or a code outside 1 to last
abbrev pub LacksCode : ℕ → List ℕ → Type 0
LacksCode last [] = Unit {0}
LacksCode last (code ∷ rest) = (code ≡ 0) ⊎ (last < code)

-- this command is laid out in the line
abbrev pub IsCommandLine : Command → List ℕ → Type 0
IsCommandLine (PrintWaiting queue) line = (operands : List (List ℕ)) × IsLine 1 queue operands line
IsCommandLine (Receive queue) line = (operands : List (List ℕ)) × IsLine 2 queue operands line
IsCommandLine (State queue list long) line = IsLine (if long then 4 else 3) queue list line
IsCommandLine (Remove queue agent list) line = IsLine 5 queue (agent ∷ list) line

-- the line means this command
abbrev pub MeansCommand : List ℕ → Command → Type 0
MeansCommand line command = IsShort line × IsCommandLine command line

-- this refusal's fault is in the line, and none that is tested earlier
abbrev pub RefusesCommand : List ℕ → Refusal → Type 0
RefusesCommand line LineTooLong = MAX_LINE < length line
RefusesCommand line BadCode = IsShort line × LacksCode 5 line
RefusesCommand line BadLine =
    IsShort line × (LacksCode 5 line → ⊥) × ((command : Command) → IsCommandLine command line → ⊥)
RefusesCommand line _ = ⊥

-- a reader's answer: the meaning, the refusal, or want of memory where there is a meaning
abbrev pub AnswersCommand : List ℕ → Result Command Refusal → Type 0
AnswersCommand line result =
    MatchResult result (MeansCommand line)
    (λ e. RefusesCommand line e
    ⊎ ((e ≡ Memory) × ((command : Command) × MeansCommand line command)))

-- a count and a name are laid out after the code of a control file or a data file
abbrev pub IsFileLine : ℕ → List ℕ → List ℕ → List ℕ → Type 0
IsFileLine code count name line = ((code ≡ 2) ⊎ (code ≡ 3)) × IsLine code count (name ∷ []) line

abbrev pub IsAbortLine : List ℕ → Type 0
IsAbortLine line = (rest : List ℕ) × (line ≡ 1 ∷ rest) × IsBlank rest

-- the count isn't 1 to MAX_COUNT_DIGITS digits, or it is a data file's 0
abbrev pub IsBadCount : ℕ → List ℕ → Type 0
IsBadCount code count = (is_count count ≡ false) ⊎ ((code ≡ 3) × (count_of count ≡ 0))

-- the name isn't one of the code's kind
abbrev pub IsBadName : ℕ → List ℕ → Type 0
IsBadName code name = (if code == 2 then is_control_name name else is_data_name name) ≡ false

-- the line means this subcommand
abbrev pub MeansSub : List ℕ → Sub → Type 0
MeansSub line Abort = IsShort line × IsAbortLine line
MeansSub line (ControlFile count name) =
    IsShort line × (digits : List ℕ) × IsLine 2 digits (name ∷ []) line × IsTrue (is_count digits)
    × (count ≡ count_of digits) × IsTrue (is_control_name name)
MeansSub line (DataFile count name) =
    IsShort line × (digits : List ℕ) × IsLine 3 digits (name ∷ []) line × IsTrue (is_count digits)
    × (count ≡ count_of digits) × (0 < count) × IsTrue (is_data_name name)

abbrev pub RefusesSub : List ℕ → Refusal → Type 0
RefusesSub line LineTooLong = MAX_LINE < length line
RefusesSub line BadCode = IsShort line × LacksCode 3 line
RefusesSub line BadLine =
    IsShort line × (LacksCode 3 line → ⊥) × (IsAbortLine line → ⊥)
    × ((code : ℕ) (count name : List ℕ) → IsFileLine code count name line → ⊥)
RefusesSub line BadCount =
    IsShort line × (code : ℕ) × (count : List ℕ) × (name : List ℕ) × IsFileLine code count name line
    × IsBadCount code count
RefusesSub line BadName =
    IsShort line × (code : ℕ) × (count : List ℕ) × (name : List ℕ) × IsFileLine code count name line
    × (IsBadCount code count → ⊥) × IsBadName code name
RefusesSub line _ = ⊥

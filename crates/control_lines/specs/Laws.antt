-- What holds of all commands, lines and octets.
use Rattle.std.specs.Prelude.{◌≡◌, ◌<◌, ◌≤◌, ◌++◌, ◌∷◌, [], ℕ, List, length, not, All}
use Rattle.percent_encoding.specs.AsciiSet.{should_percent_encode}
use Rattle.control_lines.specs.Answers.{HasNoEnd, IsEndLine, IsOneLine, IsWhole}
use Rattle.control_lines.specs.Commands.{IsSayable, Means, written}
use Rattle.control_lines.specs.Escapes.{escaped, unescaped, is_plain}
use Rattle.control_lines.specs.declared.command.ControlCommand.{ControlCommand}
use Rattle.control_lines.specs.declared.escaped.TheConstants.{HIDDEN}
use Rattle.control_lines.specs.declared.operands.TheConstants.{MOST_LINE}

-- a line means one command at most: so what is written is read back
abbrev pub HasOneMeaning : List ℕ → Type 0
HasOneMeaning line = (a b : ControlCommand) → Means line a → Means line b → a ≡ b

-- the line of a command that can be said isn't longer than MOST_LINE
abbrev pub IsShort : ControlCommand → Type 0
IsShort command = IsSayable command → length (written command) ≤ MOST_LINE

-- shown octets are read back: so no two texts are shown alike
abbrev pub IsReadBack : List ℕ → Type 0
IsReadBack octets = unescaped (escaped octets) ≡ octets

-- what is shown is a word of octets 21 to 7E in hexadecimal
abbrev pub IsOneWord : List ℕ → Type 0
IsOneWord word = (0 < length word) × All (λ b. (33 ≤ b) × (b ≤ 126)) word

-- each octet that isn't plain is shown by its digits
abbrev pub HidesOthers : ℕ → Type 0
HidesOthers b = should_percent_encode HIDDEN b ≡ not (is_plain b)

-- no line of these ends an answer
abbrev pub HasNoEndLine : List ℕ → Type 0
HasNoEndLine lines =
    (before line after : List ℕ) → lines ≡ before ++ (line ++ 10 ∷ after) → IsWhole before → IsEndLine line → ⊥

-- an answer of such lines and one more, from which the rest was cut off, has no end
abbrev pub HasNoEndYet : (front rest : List ℕ) → Type 0
HasNoEndYet front rest =
    (lines line : List ℕ) → front ++ rest ≡ lines ++ (line ++ 10 ∷ []) → HasNoEndLine lines → IsOneLine line
    → 0 < length rest → HasNoEnd front

-- some command that can be said has a line of MOST_LINE octets
abbrev pub MostIsReached : Type 0
MostIsReached = (command : ControlCommand) × IsSayable command × (length (written command) ≡ MOST_LINE)

-- What holds of all lines of a script.
use Rattle.std.specs.Prelude.{◌≡◌, ℕ, List}
use Rattle.script_lines.specs.Grammar.{Means}
use Rattle.script_lines.specs.declared.script.ScriptLine.{ScriptLine}

-- a line has one meaning at most
abbrev pub HasOneMeaning : List ℕ → Type 0
HasOneMeaning line = (a b : ScriptLine) → Means line a → Means line b → a ≡ b

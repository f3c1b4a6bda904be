-- How an answer ends.
use Rattle.std.specs.Prelude.{◌≡◌, ◌⊎◌, ℕ, List, [], ◌∷◌, ◌++◌, take, drop, codes, IsUtf8, IsTrue}
use Rattle.std.specs.List.{list_all}
use Rattle.lpd_values.specs.Kept.{is_line_feed}
use Rattle.lpd_values.specs.Pieces.{is_kept}
use Rattle.control_lines.specs.declared.answer.AnswerEnd.{AnswerEnd}
use Rattle.control_lines.specs.declared.answer.AnswerEnd.TheVariants.{Done, Refused, Unknown}

-- the last line of an answer, without its LF
abbrev pub end_words : AnswerEnd → List ℕ
end_words Done = codes "end done"
end_words (Refused text) = codes "end refused " ++ text.now
end_words Unknown = codes "end unknown"

-- no octet is a line feed
abbrev pub IsOneLine : List ℕ → Type 0
IsOneLine s = IsTrue (list_all (is_kept is_line_feed) s)

-- lines with their LFs, or nothing
abbrev pub IsWhole : List ℕ → Type 0
IsWhole s = (s ≡ []) ⊎ ((front : List ℕ) × (s ≡ front ++ 10 ∷ []))

-- a line without its LF that ends an answer
abbrev pub IsEndLine : List ℕ → Type 0
IsEndLine line =
    IsOneLine line
    × ((line ≡ codes "end done") ⊎ (line ≡ codes "end unknown")
    ⊎ ((text : List ℕ) × (line ≡ codes "end refused " ++ text) × IsUtf8 text))

-- the answer ends with this line, and these octets come before it
abbrev pub IsEnded : (answer before line : List ℕ) → Type 0
IsEnded answer before line =
    (answer ≡ before ++ (line ++ 10 ∷ [])) × IsWhole before × IsEndLine line

-- the last line of the answer, if it is whole, is no end
abbrev pub HasNoEnd : List ℕ → Type 0
HasNoEnd answer = (before line : List ℕ) → IsEnded answer before line → ⊥

-- the last line, without its LF, begins here
abbrev pub IsLastLineAt : List ℕ → ℕ → Type 0
IsLastLineAt octets at = IsWhole (take at octets) × IsOneLine (drop at octets)

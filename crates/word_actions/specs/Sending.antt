-- What is printed of a job that was sent.
use Rattle.std.specs.Prelude.{◌++◌, ◌∷◌, ℕ, List, [], codes}
use Rattle.lpd_values.specs.Texts.{three_digits}

-- the line that says that a job was sent
abbrev pub sent_line : ℕ → List ℕ
sent_line number = codes "sent " ++ (three_digits number ++ 10 ∷ [])

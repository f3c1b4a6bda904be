-- How the value of a Prometheus label is read (text format 0.0.4), character by character.
use Rattle.std.specs.Prelude.{ℕ, ◌||◌, List, [], ◌∷◌, ◌++◌, ◌==◌, if◌then◌else◌, fold}

-- Where a reader is: what it has read, and behind a reverse solidus; or nothing can be read any more.
pub data Reader : Type 0 where
  Plain : List ℕ → Reader
  Escape : List ℕ → Reader
  Bad : Reader

abbrev pub label_plain : ℕ → List ℕ → Reader
label_plain c out = if c == 92 then Escape out else if c == 34 || c == 10 then Bad else Plain (out ++ c ∷ [])

abbrev pub label_escape : ℕ → List ℕ → Reader
label_escape c out =
    if c == 34 || c == 92 then Plain (out ++ c ∷ []) else if c == 110 then Plain (out ++ 10 ∷ []) else Bad

abbrev pub label_step : Reader → ℕ → Reader
label_step (Plain out) c = label_plain c out
label_step (Escape out) c = label_escape c out
label_step Bad c = Bad

-- what stands between the quotes of a label's value
abbrev pub label_read : List ℕ → Reader
label_read text = fold label_step (Plain []) text

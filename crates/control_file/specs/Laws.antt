-- What holds of all control texts.
use Rattle.std.specs.Prelude.{◌≡◌, ◌≤◌, ◌↔◌, ◌⊎◌, ℕ, List, Result, Ok, Err, length, MatchResult}
use Rattle.lpd_values.specs.declared.refusal.Refusal.{Refusal}
use Rattle.lpd_values.specs.declared.refusal.Refusal.TheVariants.{Memory}
use Rattle.lpd_values.specs.Decided.{IsDecided}
use Rattle.lpd_values.specs.Name.{number_of}
use Rattle.lpd_values.specs.declared.limits.TheConstants.{MAX_CONTROL_TEXT}
use Rattle.control_file.specs.declared.control.Control.{Control}
use Rattle.lpd_values.specs.Contents.{Contents}
use Rattle.control_file.specs.Text.{control_of}
use Rattle.control_file.specs.Layout.{MeansControl, RefusesControl}
use Rattle.control_file.specs.Written.{control_text}
use Rattle.control_file.specs.View.{contents}

-- the function gives exactly the meaning, and exactly the refusal
abbrev pub ControlIsExact : List ℕ → List ℕ → Type 0
ControlIsExact name text =
    ((said : Contents) → (control_of name text ≡ Ok said) ↔ MeansControl name text said)
    × ((refusal : Refusal) → (control_of name text ≡ Err refusal) ↔ RefusesControl text refusal)

-- a text has one meaning or one refusal, and not both
abbrev pub ControlIsDecided : List ℕ → List ℕ → Type 0
ControlIsDecided name text = IsDecided (MeansControl name text) (RefusesControl text)

-- what is written is read back under a name with its number, where the text isn't too long
abbrev pub ControlIsReadBack : Control → List ℕ → Type 0
ControlIsReadBack control name =
    number_of name ≡ control.number → length (control_text (contents control)) ≤ MAX_CONTROL_TEXT →
    control_of name (control_text (contents control)) ≡ Ok (contents control)

-- a reader's answer: the meaning, the refusal, or want of memory where there is a meaning
abbrev pub AnswersControl : List ℕ → List ℕ → Result Control Refusal → Type 0
AnswersControl name text result =
    MatchResult result (λ c. MeansControl name text (contents c))
    (λ e. RefusesControl text e
    ⊎ ((e ≡ Memory) × ((said : Contents) × MeansControl name text said)))

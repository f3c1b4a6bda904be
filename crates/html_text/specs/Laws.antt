-- What holds of all texts.
use Rattle.std.specs.Prelude.{◌≡◌, ℕ, List}
use Rattle.html_text.specs.declared.form.Form.TheVariants.{Html, Label}
use Rattle.html_text.specs.Written.{written}
use Rattle.html_text.specs.Markup.{IsInert}
use Rattle.html_text.specs.Reading.{Plain, label_read}

-- no markup comes from a text
abbrev pub BringsNoMarkup : List ℕ → Type 0
BringsNoMarkup cs = (pieces : List (List ℕ)) × IsInert pieces (written Html cs)

-- the value of a label is read back as the text that went in
abbrev pub LabelIsReadBack : List ℕ → Type 0
LabelIsReadBack cs = label_read (written Label cs) ≡ Plain cs

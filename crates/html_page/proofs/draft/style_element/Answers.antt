use Rattle.std.proofs.Common.{List, ℕ, ◌++◌, codes, ap, ◌∙◌, string_bytes}
use Rattle.std.specs.Str.{chars}
use Rattle.html_page.specs.Parts.{plain_chars}
use Rattle.html_page.proofs.NameLemmas.{sheet_put}
use Rattle.html_page.proofs.draft.style_element.Goals as goal

pub returns : goal.returns
returns c =
    sheet_put (plain_chars (chars c.args.sheet.now)) (string_bytes c.push_str-2.new.self) (
    c.in_ok-push_str-2.ensures.bytes
    ∙ ap (λ (v : List ℕ). v ++ codes "</style>") (
    c.in_ok-push_str.ensures.bytes
    ∙ (ap (λ (v : List ℕ). v ++ c.as_str.result.now) c.in_ok-text.ensures.ok
    ∙ ap (λ (v : List ℕ). codes "<style>" ++ v) (c.as_str.ensures.value ∙ c.in_ok-plain.ensures))))

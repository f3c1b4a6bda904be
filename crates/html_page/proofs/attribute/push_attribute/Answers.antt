use Rattle.std.proofs.Common.{List, ℕ, ◌++◌, codes, ap, ◌∙◌, string_bytes}
use Rattle.std.specs.Str.{chars, encode_utf8_all}
use Rattle.html_text.specs.declared.form.Form.TheVariants.{Html}
use Rattle.html_text.specs.Written.{written}
use Rattle.html_page.proofs.NameLemmas.{attribute_put}
use Rattle.html_page.proofs.attribute.push_attribute.Goals as goal

pub returns : goal.returns
returns c =
    let a = c.args.attribute.now in
    let was = string_bytes c.args.out.now in
    let shown = written Html (chars a.value.now) in
    attribute_put a.name was shown (string_bytes c.push_str-4.new.self) (
    c.in_ok-push_str-4.ensures.bytes
    ∙ ap (λ (v : List ℕ). v ++ codes "\"") (
    c.in_ok-push_text.ensures
    ∙ ap (λ (v : List ℕ). v ++ encode_utf8_all shown) (
    c.in_ok-push_str-3.ensures.bytes
    ∙ ap (λ (v : List ℕ). v ++ codes "=\"") (
    c.in_ok-push_str-2.ensures.bytes
    ∙ (ap (λ (v : List ℕ). v ++ c.name.result.now) c.in_ok-push_str.ensures.bytes ∙ ap (λ (v : List ℕ). was ++ codes " " ++ v) c.name.ensures)))))

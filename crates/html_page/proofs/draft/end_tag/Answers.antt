use Rattle.std.proofs.Common.{List, ℕ, ◌++◌, codes, ap, ◌∙◌, string_bytes}
use Rattle.html_page.proofs.NameLemmas.{end_put}
use Rattle.html_page.proofs.draft.end_tag.Goals as goal

pub returns : goal.returns
returns c =
    end_put c.args.tag (string_bytes c.push_str-2.new.self) (
    c.in_ok-push_str-2.ensures.bytes
    ∙ ap (λ (v : List ℕ). v ++ codes ">") (
    c.in_ok-push_str.ensures.bytes
    ∙ (ap (λ (v : List ℕ). v ++ c.name.result.now) c.in_ok-text.ensures.ok ∙ ap (λ (v : List ℕ). codes "</" ++ v) c.name.ensures)))

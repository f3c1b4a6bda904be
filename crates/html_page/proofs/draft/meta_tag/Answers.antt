use Rattle.std.proofs.Common.{List, ℕ, ◌++◌, codes, ap, ◌∙◌, string_bytes}
use Rattle.std.specs.List.{flat_map}
use Rattle.html_page.specs.Parts.{told_octets}
use Rattle.html_page.proofs.NameLemmas.{meta_put}
use Rattle.html_page.proofs.draft.meta_tag.Goals as goal

pub returns : goal.returns
returns c =
    let attributes = c.args.attributes.now in
    meta_put attributes (string_bytes c.push_str.new.self) (
    c.in_ok-push_str.ensures.bytes
    ∙ ap (λ (v : List ℕ). v ++ codes ">") (
    c.in_ok-push_attributes.ensures ∙ ap (λ (v : List ℕ). v ++ flat_map told_octets attributes) c.in_ok-text.ensures.ok))

use Rattle.std.proofs.Common.{List, ℕ, ◌++◌, ap, ◌∙◌, is_ok, refl, string_bytes}
use Rattle.std.specs.Str.{chars}
use Rattle.html_page.specs.Parts.{Words, part_octets}
use Rattle.html_page.proofs.PageLemmas.{put_or_not}
use Rattle.html_page.proofs.draft.Draft.words.Goals as goal

pub invariant_of-self : goal.invariant_of-self
invariant_of-self c =
    let p = c.args.self.now in
    record { begins = put_or_not p.opened.items (string_bytes p.text) (string_bytes c.push_str.new.self) c.as_str.result.now (Words (chars c.args.text.now)) (is_ok c.push_str.result) refl c.push_str.ensures.bytes (c.as_str.ensures.value ∙ (c.in_ok-push_text.ensures ∙ ap (λ (v : List ℕ). v ++ part_octets (Words (chars c.args.text.now))) c.new-shown.ensures.bytes)) p.begins }

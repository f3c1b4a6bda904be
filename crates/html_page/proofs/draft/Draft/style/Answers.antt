use Rattle.std.proofs.Common.{◌∙◌, is_ok, refl, string_bytes}
use Rattle.std.specs.Str.{chars}
use Rattle.html_page.specs.Parts.{Sheet}
use Rattle.html_page.proofs.PageLemmas.{put_or_not}
use Rattle.html_page.proofs.draft.Draft.style.Goals as goal

pub invariant_of-self : goal.invariant_of-self
invariant_of-self c =
    let p = c.args.self.now in
    record { begins = put_or_not p.opened.items (string_bytes p.text) (string_bytes c.push_str.new.self) c.as_str.result.now (Sheet (chars c.args.sheet.now)) (is_ok c.push_str.result) refl c.push_str.ensures.bytes (c.as_str.ensures.value ∙ c.in_ok-element.ensures) p.begins }

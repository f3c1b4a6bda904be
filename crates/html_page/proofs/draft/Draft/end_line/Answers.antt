use Rattle.std.proofs.Common.{is_ok, refl, string_bytes}
use Rattle.html_page.specs.Parts.{LineEnd}
use Rattle.html_page.proofs.PageLemmas.{line_octets, put_or_not}
use Rattle.html_page.proofs.draft.Draft.end_line.Goals as goal

pub invariant_of-self : goal.invariant_of-self
invariant_of-self c =
    let p = c.args.self.now in
    record { begins = put_or_not p.opened.items (string_bytes p.text) (string_bytes c.push_str.new.self) _ LineEnd (is_ok c.push_str.result) refl c.push_str.ensures.bytes line_octets p.begins }

use Rattle.std.proofs.Common.{◌≡◌, length, rules, string_bytes}
use Rattle.std.proofs.lemmas.List.{nil_from_length}
use Rattle.html_page.proofs.PageLemmas.{all_closed}
use Rattle.html_page.proofs.draft.Draft.into_text.Goals as goal

pub returns : goal.returns
returns c =
    let p = c.loop-self.self in
    let same = p.opened.ok in
    let none : length p.opened.items ≡ 0 = search rules in
    all_closed p.opened.items (string_bytes p.text) (nil_from_length p.opened.items none) p.begins

use Rattle.std.proofs.Common.{◌∙◌, refl, string_bytes, sym, vec_len}
use Rattle.html_page.specs.Parts.{End}
use Rattle.html_page.proofs.PageLemmas.{closes, put, stays}
use Rattle.html_page.proofs.draft.Draft.close.Goals as goal

pub invariant_of-self : goal.invariant_of-self
invariant_of-self c =
    let p = c.args.self.now in
    record { begins = stays p.opened.items p.opened.items (string_bytes p.text) (string_bytes c.push_str.new.self) refl c.in_err-push_str.ensures.bytes p.begins }

pub invariant_of-self-2 : goal.invariant_of-self-2
invariant_of-self-2 c =
    let p = c.args.self.now in
    let after = c.pop-closed.new.self.items in
    let fit = closes p.opened.items c.deref.result.now after (vec_len p.opened) c.in-Some.tag
    c.deref.ensures.value c.deref.ensures.len c.pop-closed.ensures.rest (sym c.in-Some.is ∙ (c.copied.ensures ∙ c.last.ensures.value)) in
    record {
      begins = put p.opened.items after (string_bytes p.text) (string_bytes c.push_str.new.self) c.as_str.result.now (End c.in-Some.tag)
          fit c.in_ok-push_str.ensures.bytes (c.as_str.ensures.value ∙ c.in_ok-end.ensures) p.begins;
    }

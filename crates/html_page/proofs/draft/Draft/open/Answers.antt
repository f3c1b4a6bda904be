use Rattle.std.proofs.Common.{◌∙◌, map, refl, rules, string_bytes, sym, vec_len}
use Rattle.html_page.specs.Parts.{Start, told}
use Rattle.html_page.proofs.PageLemmas.{popped, put, stays}
use Rattle.html_page.proofs.draft.Draft.open.Goals as goal

pub invariant_of-self : goal.invariant_of-self
invariant_of-self c =
    let p = c.args.self.now in
    record { begins = stays p.opened.items c.push.new.self.items (string_bytes p.text) (string_bytes p.text) c.in_err-push.ensures.items refl p.begins }

pub invariant_of-self-then-is_err : goal.invariant_of-self-then-is_err
invariant_of-self-then-is_err c =
    let p = c.args.self.now in
    let pushed = c.push.new.self in
    record {
      begins = stays p.opened.items c.pop-unopened.new.self.items (string_bytes p.text) (string_bytes c.push_str-put.new.self)
          (popped p.opened.items pushed.items c.pop-unopened.new.self.items (vec_len pushed) c.args.tag c.in_ok-push.ensures.items (search rules) c.pop-unopened.ensures.rest) (search rules) p.begins;
    }

pub invariant_of-self-else-is_err : goal.invariant_of-self-else-is_err
invariant_of-self-else-is_err c =
    let p = c.args.self.now in
    record {
      begins = put p.opened.items c.push.new.self.items (string_bytes p.text) (string_bytes c.push_str-put.new.self) c.as_str.result.now (Start c.args.tag (map told c.args.attributes.now))
          (sym c.in_ok-push.ensures.items) (search rules) (c.as_str.ensures.value ∙ c.in_ok-start.ensures) p.begins;
    }

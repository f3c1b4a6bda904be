use Rattle.std.proofs.Common.{◌≡◌, ◌≤◌, ◌-◌, ◌∙◌, ap, arith, length, take}
use Rattle.std.specs.Vec.{vec_len}
use Rattle.std.proofs.lemmas.Bool.{and_parts, leb-true}
use Rattle.control_file.proofs.WriteLemmas.{written_open, written_whole}
use Rattle.control_file.specs.View.{contents}
use Rattle.control_file.proofs.control.Control.write.Goals as goal
use Rattle.control_file.proofs.control.Control.write.Goals.{then-len-gt-MAX_CONTROL_TEXT, else-len-gt-MAX_CONTROL_TEXT}

pub returns : goal.returns
returns c =
    let control = c.args.self.now in
    let some : 1 ≤ length control.prints = leb-true 1 (length control.prints) (and_parts _ _ (and_parts _ _ control.prints_fit).0).0 in
    let counted : vec_len c.in_ok-text.text ≡ length c.in_ok-text.text.items = omega arith in
    elim c.if-len-gt-MAX_CONTROL_TEXT.branch [
      | then-len-gt-MAX_CONTROL_TEXT w ↦
          c.from_vec.ensures ∙ written_open (contents control) c.in_ok-text.text.items _ some c.in_ok-text.ensures (omega (arith, w.if-len-gt-MAX_CONTROL_TEXT.true, c.len.ensures)) (ap (λ t. t.items) w.text-is ∙ (w.pop.ensures.rest ∙ ap (λ n. take (n - 1) c.in_ok-text.text.items) counted))
      | else-len-gt-MAX_CONTROL_TEXT w ↦
          c.from_vec.ensures ∙ (ap (λ t. t.items) w.text-is ∙ written_whole (contents control) c.in_ok-text.text.items c.in_ok-text.ensures (omega (arith, w.if-len-gt-MAX_CONTROL_TEXT.false, c.len.ensures)))
    ]

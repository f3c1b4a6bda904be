use Rattle.std.proofs.Common.{◌≡◌, ◌+◌, ◌-◌, ◌++◌, ◌∙◌, [], sym, ap, take, take_all, drop, length, length-drop, List, ℕ, true, arith}
use Rattle.terminal_writer.specs.Terminal.{front_of, is_cut, shown, ShowsUpTo}
use Rattle.terminal_writer.proofs.TerminalLemmas.{visible_step, visible_goes_on, hidden_goes_on, cut_step, end_is_cut}
use Rattle.terminal_writer.proofs.terminal.shown_front.Goals as goal
use Rattle.terminal_writer.proofs.terminal.shown_front.Goals.{else-loop-at-test, then-loop-at-test+in-Cut}

-- the octets from a place on
from_there : (text : List ℕ) (at : ℕ) → take (length text - at) (drop at text) ≡ drop at text
from_there text at = take_all (length text - at) (drop at text) (omega (arith, length-drop at text))

pub loop-at-preserved-in-Visible : goal.loop-at-preserved-in-Visible
loop-at-preserved-in-Visible c =
    let front = ap front_of (sym (from_there c.args.text.now c.loop-at.at)) ∙ (sym c.front_of.ensures ∙ c.in-Visible.is) in
    let most = (visible_step (drop c.loop-at.at c.args.text.now) [] c.in-Visible.count front).0 in
    let count : c.loop-at.at + c.in-Visible.count - c.loop-at.at ≡ c.in-Visible.count = omega arith in
    record {
      within = omega (arith, length-drop c.loop-at.at c.args.text.now, most, c.loop-at.invariant.within);
      shown = λ rest. visible_goes_on c.args.text.now c.loop-at.shown.items c.extend_from_slice.new.self.items rest c.loop-at.at
          c.in-Visible.count front (c.loop-at.invariant.shown rest)
          (c.in_ok-extend_from_slice-in-Visible.ensures.items ∙ ap (λ k. c.loop-at.shown.items ++ take k (drop c.loop-at.at c.args.text.now)) count);
    }

pub loop-at-preserved : goal.loop-at-preserved
loop-at-preserved c =
    let front = ap front_of (sym (from_there c.args.text.now c.loop-at.at)) ∙ (sym c.front_of.ensures ∙ c.in-Hidden.is) in
    record {
      within = omega (arith, c.loop-at-test.true);
      shown = λ rest. hidden_goes_on c.args.text.now c.loop-at.shown.items c.put_hidden.new.shown.items rest c.loop-at.at
          c.loop-at-test.true front (c.loop-at.invariant.shown rest) c.in_ok-put_hidden-in-Hidden.ensures;
    }

left_over : (text s left : List ℕ) (at : ℕ) → left ≡ take (length text - at) (drop at text) → is_cut (drop at text) ≡ true
    → ((rest : List ℕ) → shown (text ++ rest) ≡ s ++ shown (drop at text ++ rest)) → ShowsUpTo text s left
left_over text s left at e h f =
    let same = e ∙ from_there text at in
    (ap is_cut same ∙ h, λ rest. f rest ∙ ap (λ l. s ++ shown (l ++ rest)) (sym same))

pub returns : goal.returns
returns c =
    let cut : is_cut (drop c.loop-at.at c.args.text.now) ≡ true = elim c.loop-at-test.branch [
      | else-loop-at-test w ↦ end_is_cut c.loop-at.at c.args.text.now w.loop-at-test.false
      | then-loop-at-test+in-Cut w ↦
          cut_step (drop c.loop-at.at c.args.text.now)
          (ap front_of (sym (from_there c.args.text.now c.loop-at.at)) ∙ (sym w.front_of.ensures ∙ w.in-Cut.is))
    ] in
    left_over c.args.text.now c.loop-at.shown.items c.in_ok-rest.rest.items c.loop-at.at c.in_ok-rest.ensures.items cut
    c.loop-at.invariant.shown

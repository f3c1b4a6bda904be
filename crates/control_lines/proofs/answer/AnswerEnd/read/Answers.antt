use Rattle.std.proofs.Common.{◌≡◌, inr, ◌∙◌, ap, ◌++◌, List, ℕ}
use Rattle.std.specs.Prelude.{codes}
use Rattle.control_lines.proofs.answer.AnswerEnd.read.Goals as goal

pub returns : goal.returns
returns c =
    let line : c.args.line.now ≡ codes "end refused " ++ c.in_ok-text.text.now =
    c.in_ok-words.ensures ∙ ap (λ (t : List ℕ). codes "end " ++ t) c.in_ok-text.ensures.0 in
    (line, (c.requires, inr (inr (c.in_ok-text.text.now, line, c.in_ok-text.ensures.1))))

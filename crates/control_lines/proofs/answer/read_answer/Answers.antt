use Rattle.std.proofs.Common.{◌++◌}
use Rattle.control_lines.specs.Answers.{end_words}
use Rattle.control_lines.proofs.AnswerLemmas.{an_end, ends_with_feed, no_other_end}
use Rattle.control_lines.proofs.answer.read_answer.Goals as goal

pub returns-in_err-lines : goal.returns-in_err-lines
returns-in_err-lines c =
    rw c.from_residual.ensures (λ before line h. c.in_err-lines.ensures (before ++ line) (ends_with_feed c.args.answer.now before line h))

pub returns-in_err-end : goal.returns-in_err-end
returns-in_err-end c =
    rw c.from_residual-in_err-end.ensures (
    no_other_end c.args.answer.now c.in_ok-lines.lines.now c.last_line.result c.split_at.result.0.now c.split_at.result.1.now
    c.in_ok-lines.ensures c.split_at.ensures.front c.split_at.ensures.back c.last_line.ensures.last c.in_err-end.ensures
    )

pub returns : goal.returns
returns c =
    an_end c.args.answer.now c.in_ok-lines.lines.now c.last_line.result c.split_at.result.0.now c.split_at.result.1.now (end_words c.in_ok-end.end)
    c.in_ok-lines.ensures c.split_at.ensures.front c.split_at.ensures.back c.last_line.ensures.last c.in_ok-end.ensures.0 c.in_ok-end.ensures.1

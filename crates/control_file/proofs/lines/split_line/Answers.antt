use Rattle.std.proofs.Common.{arith}
use Rattle.lpd_values.proofs.PieceLemmas.{word_some}
use Rattle.lpd_values.specs.Pieces.{is_kept}
use Rattle.lpd_values.specs.Kept.{is_line_feed}
use Rattle.control_file.proofs.LineLemmas.{split_lines, operand_kept}
use Rattle.control_file.proofs.lines.split_line.Goals as goal

pub returns-clause-lines : goal.returns-clause-lines
returns-clause-lines c =
    let some = word_some is_line_feed c.args.text.now c.requires in
    split_lines is_line_feed c.args.text.now _ _ c.line_len.result c.requires c.line_len.ensures.value c.split_at.ensures.front c.split_at.ensures.back (omega arith)

pub returns-clause-no_feed : goal.returns-clause-no_feed
returns-clause-no_feed c = operand_kept (is_kept is_line_feed) c.args.text.now c.split_at.result.0.now c.line_len.result c.line_len.ensures.value c.split_at.ensures.front

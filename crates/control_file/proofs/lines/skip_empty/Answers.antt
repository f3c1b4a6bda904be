use Rattle.lpd_values.proofs.PieceLemmas.{skip_words, skip_begins}
use Rattle.lpd_values.specs.Kept.{is_line_feed}
use Rattle.control_file.proofs.lines.skip_empty.Goals as goal

pub returns-clause-lines : goal.returns-clause-lines
returns-clause-lines c = skip_words is_line_feed c.args.text.now c.feeds_len.result c.feeds_len.ensures.value

pub returns-clause-at_line : goal.returns-clause-at_line
returns-clause-at_line c = skip_begins is_line_feed c.args.text.now c.feeds_len.result c.feeds_len.ensures.value

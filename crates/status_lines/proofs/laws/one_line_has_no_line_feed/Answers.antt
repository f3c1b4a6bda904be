use Rattle.status_lines.proofs.OneLineLemmas.{no_feed}
use Rattle.status_lines.proofs.laws.one_line_has_no_line_feed.Goals as goal

pub returns : goal.returns
returns c = no_feed c.args._text.now

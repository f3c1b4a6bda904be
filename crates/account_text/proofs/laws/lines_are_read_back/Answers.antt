use Rattle.account_text.proofs.ReadBack.{line_is_read_back, lines_are_apart}
use Rattle.account_text.proofs.laws.lines_are_read_back.Goals as goal

pub returns-clause-back : goal.returns-clause-back
returns-clause-back c = line_is_read_back

pub returns-clause-apart : goal.returns-clause-apart
returns-clause-apart c = lines_are_apart

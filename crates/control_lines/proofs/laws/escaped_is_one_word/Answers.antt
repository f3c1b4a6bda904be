use Rattle.control_lines.proofs.EscapeLemmas.{one_word}
use Rattle.control_lines.proofs.laws.escaped_is_one_word.Goals as goal

pub returns : goal.returns
returns c = one_word c.args._octets.now

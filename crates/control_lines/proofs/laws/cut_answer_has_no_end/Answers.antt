use Rattle.control_lines.proofs.AnswerLemmas.{no_end_yet}
use Rattle.control_lines.proofs.laws.cut_answer_has_no_end.Goals as goal

pub returns : goal.returns
returns c = no_end_yet c.args._front.now c.args._rest.now

use Rattle.lpr_client.proofs.AskLemmas.{line_asked, line_faults}
use Rattle.lpr_client.proofs.asking.ask.Goals as goal

pub returns-clause-asked : goal.returns-clause-asked
returns-clause-asked g c =
    line_asked _ c.hand_answer_on.result _ _ c.hand_answer_on.ensures.fault c.in_ok-write_line.ensures.asked

pub returns-clause-writer_faults : goal.returns-clause-writer_faults
returns-clause-writer_faults g c =
    line_faults c.hand_answer_on.result _ _ c.hand_answer_on.ensures.fault c.in_ok-write_line.ensures.faults

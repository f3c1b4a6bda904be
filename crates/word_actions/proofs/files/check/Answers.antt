use Rattle.word_actions.proofs.OrderLemmas.{not_read}
use Rattle.word_actions.proofs.files.check.Goals as goal

pub returns-clause-faulty : goal.returns-clause-faulty
returns-clause-faulty g c text left due first = absurd (not_read due _ (c.in_ok-spool.ensures.faulty text left due first))

pub returns-in_err-print-clause-faulty : goal.returns-in_err-print-clause-faulty
returns-in_err-print-clause-faulty g c text left due first = absurd (not_read due _ (c.in_ok-spool.ensures.faulty text left due first))

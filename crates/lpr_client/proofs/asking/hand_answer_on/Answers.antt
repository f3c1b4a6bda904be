use Rattle.lpr_client.proofs.AskLemmas.{failed_after}
use Rattle.lpr_client.proofs.asking.hand_answer_on.Goals as goal

pub returns-then-first-ge-SPACE-clause-read_fault : goal.returns-then-first-ge-SPACE-clause-read_fault
returns-then-first-ge-SPACE-clause-read_fault g c e =
    failed_after _ _ _ _ _ _ _ (rw c.in-Some.is at c.in_ok-first.ensures.ok) c.in_ok-first.ensures.faults (c.hand_on.ensures.read_fault e)

pub returns-in-Some-2-clause-read_fault : goal.returns-in-Some-2-clause-read_fault
returns-in-Some-2-clause-read_fault g c e =
    failed_after _ _ _ _ _ _ _ (rw c.in-Some.is at c.in_ok-first.ensures.ok) c.in_ok-first.ensures.faults
    (failed_after _ _ _ _ _ _ _ (rw c.in-Some-2.is at c.in_ok-second.ensures.ok) c.in_ok-second.ensures.faults (c.hand_on-in-Some-2.ensures.read_fault e))

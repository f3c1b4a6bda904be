use Rattle.spool_history.specs.Legal.{MayBeRemoved}
use Rattle.history_legality.proofs.DoingLaws.{of_rest, of_first}
use Rattle.history_legality.proofs.queues.+some_may_be_removed.Goals as goal
use Rattle.history_legality.proofs.queues.+some_may_be_removed.Goals.{else-job-number-via-then-job-number+else-may_be_removed, else-job-number-via-else-job-number}

pub returns-then-may_be_removed : goal.returns-then-may_be_removed
returns-then-may_be_removed t c =
    of_first c.args.jobs.now c.in-Some.rest.now c.in-Some.job.now c.args.number (MayBeRemoved c.args.queue)
    (cc (c.in-Some.ensures.cases.0)) c.if-job-number.true (c.may_be_removed.ensures.0 c.if-may_be_removed.true)

pub returns : goal.returns
returns t c =
    let k = c.some_may_be_removed.ensures in
    let more = of_rest c.args.jobs.now c.in-Some.rest.now c.in-Some.job.now c.args.number (MayBeRemoved c.args.queue) (cc (c.in-Some.ensures.cases.0)) (elim c.else-job-number.branch [
      | else-job-number-via-then-job-number+else-may_be_removed w ↦ λ n p. absurd (cc (w.may_be_removed.ensures.1 p))
      | else-job-number-via-else-job-number w ↦ λ n p. w.if-job-number.false n
    ]) in
    (λ e. more.0 (k.0 e), λ h. k.1 (more.1 h))

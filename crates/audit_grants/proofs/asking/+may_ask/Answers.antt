use Rattle.account.specs.Seen.{octets}
use Rattle.spool_history.specs.Events.Act.{Granted}
use Rattle.spool_history.specs.Legal.{JobMay}
use Rattle.history_legality.proofs.DoingLaws.{of_first, of_rest}
use Rattle.audit_grants.proofs.asking.+may_ask.Goals as goal
use Rattle.audit_grants.proofs.asking.+may_ask.Goals.{else-job-number-via-then-job-number+else-asks, else-job-number-via-else-job-number}

pub returns : goal.returns
returns t c =
    let k = c.may_ask.ensures in
    let more = of_rest c.args.jobs.now c.in-Some.rest.now c.in-Some.job.now c.args.number (JobMay octets c.args.config.now Granted)
    (cc (c.in-Some.ensures.cases.0)) (elim c.else-job-number.branch [
      | else-job-number-via-then-job-number+else-asks w ↦ λ n p. absurd (cc (w.asks.ensures.1 p))
      | else-job-number-via-else-job-number w ↦ λ n p. w.if-job-number.false n
    ]) in
    (λ e. more.0 (k.0 e), λ h. k.1 (more.1 h))

pub returns-then-asks : goal.returns-then-asks
returns-then-asks t c =
    of_first c.args.jobs.now c.in-Some.rest.now c.in-Some.job.now c.args.number (JobMay octets c.args.config.now Granted)
    (cc (c.in-Some.ensures.cases.0)) c.if-job-number.true (c.asks.ensures.0 c.if-asks.true)

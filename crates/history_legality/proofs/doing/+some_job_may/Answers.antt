use Rattle.account.specs.Seen.{act_seen, octets}
use Rattle.spool_history.specs.Legal.{JobMay}
use Rattle.history_legality.proofs.DoingLaws.{of_rest}
use Rattle.history_legality.proofs.doing.+some_job_may.Goals as goal
use Rattle.history_legality.proofs.doing.+some_job_may.Goals.{else-job-number-via-then-job-number+else-job_may, else-job-number-via-else-job-number}

pub returns : goal.returns
returns t c =
    let k = c.some_job_may.ensures in
    let more = of_rest c.args.jobs.now c.in-Some.rest.now c.in-Some.job.now c.args.number (JobMay octets c.args.config.now (act_seen c.args.act.now))
    (cc (c.in-Some.ensures.cases.0)) (elim c.else-job-number.branch [
      | else-job-number-via-then-job-number+else-job_may w ↦ λ n p. absurd (cc (w.job_may.ensures.1 p))
      | else-job-number-via-else-job-number w ↦ λ n p. w.if-job-number.false n
    ]) in
    (λ e. more.0 (k.0 e), λ h. k.1 (more.1 h))

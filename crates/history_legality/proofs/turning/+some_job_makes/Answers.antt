use Rattle.std.proofs.Common.{◌≡◌}
use Rattle.spool_history.specs.Now.{Job}
use Rattle.spool_history.specs.Legal as L
use Rattle.account.specs.declared.entry.Outline.{Outline}
use Rattle.account.specs.Seen.{progress_seen}
use Rattle.history_legality.proofs.OrderLaws.{if_ok_iff}
use Rattle.history_legality.proofs.DoingLaws.{of_rest, of_first}
use Rattle.history_legality.proofs.turning.+some_job_makes.Goals as goal
use Rattle.history_legality.proofs.turning.+some_job_makes.Goals.{else-job-number-via-then-job-number+in_ok-makes+else-branch, else-job-number-via-else-job-number}

pub returns-then-branch : goal.returns-then-branch
returns-then-branch t c =
    of_first c.args.jobs.now c.in-Some.rest.now c.in-Some.job.now c.args.number (λ v. progress_seen c.args.progress ≡ L.progress_of v)
    (cc (c.in-Some.ensures.cases.0)) c.if-job-number.true (c.in_ok-makes.ensures.0 c.if-branch.true)

pub returns : goal.returns
returns t c =
    let P : Job Outline → Type 0 = λ v. progress_seen c.args.progress ≡ L.progress_of v in
    let more = of_rest c.args.jobs.now c.in-Some.rest.now c.in-Some.job.now c.args.number P (cc (c.in-Some.ensures.cases.0)) (elim c.else-job-number.branch [
      | else-job-number-via-then-job-number+in_ok-makes+else-branch w ↦ λ n p. absurd (cc (w.in_ok-makes.ensures.1 p))
      | else-job-number-via-else-job-number w ↦ λ n p. w.if-job-number.false n
    ]) in
    if_ok_iff c.some_job_makes.result more.0 more.1 c.some_job_makes.ensures

use Rattle.std.proofs.Common.{string_bytes}
use Rattle.status_lines.specs.Status.{job_text}
use Rattle.status_lines.proofs.PlaceLemmas.{step}
use Rattle.status_lines.proofs.status.push_jobs.Goals as goal

pub loop-i-preserved : goal.loop-i-preserved
loop-i-preserved c =
    step (job_text c.args.config.now c.args.spool.now c.args.noted.now) c.deref-job-items.result.now c.loop-i.i c.job-item.result
    (string_bytes c.args.text.now) (string_bytes c.loop-i.text) (string_bytes c.push_job.new.text)
    c.loop-i-test.true c.job-item.is c.loop-i.invariant c.in_ok-push_job.ensures

use Rattle.std.proofs.lemmas.List.{append-nil}
use Rattle.std.proofs.lemmas.Result.{on_ok_weaker}
use Rattle.std.proofs.Common.{◌∙◌, refl}
use Rattle.lpd_values.specs.Texts.{removed_line}
use Rattle.told_jobs.proofs.Rows.{active_taken, none_active}
use Rattle.told_jobs.proofs.texts.put_active.Goals as goal

pub returns-in_default : goal.returns-in_default
returns-in_default g c =
    let jobs = g.J.ToldJobs.jobs c.args.jobs.now in
    rw (none_active g.J.ToldJobs.told jobs c.args.queue c.args.agent.now c.in_default.ensures) (simp append-nil)

pub returns : goal.returns
returns g c =
    let told = g.J.ToldJobs.told in
    let taken = active_taken told (g.J.ToldJobs.jobs c.args.jobs.now) c.args.queue c.args.agent.now (λ j. removed_line (told j)) c.in-Some.i c.job-job.ensures.0 c.in-Some.ensures c.job-job.ensures.1 in
    on_ok_weaker c.put_where_taken.result
    (λ e. e ∙ rw (c.may_remove.ensures, c.job-job.ensures.2, taken) refl)
    c.put_where_taken.ensures

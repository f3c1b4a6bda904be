use Rattle.std.proofs.lemmas.List.{append_assoc}
use Rattle.lpd_values.specs.Choice.{is_shown}
use Rattle.lpd_values.specs.Texts.{job_lines}
use Rattle.told_jobs.proofs.Rows.{passed_more}
use Rattle.told_jobs.proofs.texts.put_listing.Goals as goal

pub loop-i-preserved : goal.loop-i-preserved
loop-i-preserved g c =
    let told = g.J.ToldJobs.told in
    let more = passed_more (λ j. job_lines c.args.query.now.long (told j)) (λ j. is_shown c.args.query.now.queue c.args.query.now.list.now (told j)) (g.J.ToldJobs.jobs c.args.jobs.now) c.loop-i.i c.job.ensures.0 c.job.ensures.1 in
    rw (c.in_ok-put_where_shown.ensures, c.job.ensures.2, c.loop-i.invariant, more) (simp append_assoc)

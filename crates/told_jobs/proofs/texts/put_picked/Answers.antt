use Rattle.std.proofs.lemmas.List.{append_assoc}
use Rattle.lpd_values.specs.Choice.{is_picked}
use Rattle.lpd_values.specs.Texts.{removed_line}
use Rattle.told_jobs.proofs.Rows.{passed_more}
use Rattle.told_jobs.proofs.texts.put_picked.Goals as goal

pub loop-i-preserved : goal.loop-i-preserved
loop-i-preserved g c =
    let told = g.J.ToldJobs.told in
    let more = passed_more (λ j. removed_line (told j)) (λ j. is_picked c.args.queue c.args.agent.now c.args.words.now (told j)) (g.J.ToldJobs.jobs c.args.jobs.now) c.loop-i.i c.job-job.ensures.0 c.job-job.ensures.1 in
    rw (c.in_ok-put_where_taken.ensures, c.is_picked.ensures, c.job-job.ensures.2, c.loop-i.invariant, more) (simp append_assoc)

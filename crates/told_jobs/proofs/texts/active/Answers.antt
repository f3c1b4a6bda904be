use Rattle.std.proofs.Common.{below_more, sym}
use Rattle.std.proofs.lemmas.Option.{get_or_from_slice_get, slice_get_within}
use Rattle.told_jobs.proofs.texts.active.Goals as goal

pub loop-i-preserved : goal.loop-i-preserved
loop-i-preserved g c = λ no_job.
    let here = get_or_from_slice_get (g.J.ToldJobs.jobs c.args.jobs.now) c.loop-i.i c.job.ensures.0 no_job c.job.ensures.1 in
    below_more _ _ (c.loop-i.invariant no_job) (rw (here, sym c.job.ensures.2, sym c.is_active.ensures) c.if-is_active.false)

pub returns-then-is_active : goal.returns-then-is_active
returns-then-is_active g c =
    let jobs = g.J.ToldJobs.jobs c.args.jobs.now in (
      slice_get_within jobs c.loop-i.i c.job.ensures.0 c.job.ensures.1,
      λ no_job. (
          let here = get_or_from_slice_get jobs c.loop-i.i c.job.ensures.0 no_job c.job.ensures.1 in
          (rw (here, sym c.job.ensures.2, sym c.is_active.ensures) c.if-is_active.true, c.loop-i.invariant no_job)),
    )

use Rattle.std.proofs.Common.{get_or, subst, arith}
use Rattle.job_store.specs.Files.{whole_told}
use Rattle.job_store.proofs.Moments.{more_called}
use Rattle.kept_recovery.specs.Feeding.{Feeds}
use Rattle.kept_recovery.proofs.Feeds.{feeds_next, stays_more, told_still}
use Rattle.kept_recovery.proofs.feeding.feed.Goals as goal

pub loop-job-preserved : goal.loop-job-preserved
loop-job-preserved g c =
    let files = g.S.Store.files in
    let carries = g.Q.Requests.carries in
    let ends = g.Q.Requests.ends in
    let so_far = c.loop-job.invariant in
    let here = told_still files c.args.store.now c.loop-job.store (get_or c.args.jobs.now c.loop-job.job-index 0) so_far.files in
    let one = subst (λ told. Feeds carries ends told c.feed_one.result c.loop-job.spool c.feed_one.new.spool) here c.feed_one.ensures.fed in
    record {
      fed = feeds_next carries ends (whole_told files c.args.store.now) c.args.jobs.now c.loop-job.job-index c.loop-job.fed.items
          c.push.new.self.items c.feed_one.result
          c.args.spool.now c.loop-job.spool c.feed_one.new.spool (omega arith) c.in_ok-push.ensures.items so_far.fed one;
      files = stays_more files c.args.store.now c.loop-job.store c.feed_one.new.store so_far.files c.feed_one.ensures.files;
      any_moment = more_called g.S.Store.moment g.S.Store.left_since g.S.Store.may_leave _ _ _ so_far.any_moment
          c.feed_one.ensures.any_moment;
    }

use Rattle.job_store.specs.Files.{whole_told}
use Rattle.kept_recovery.proofs.Feeds.{feeds_same, told_same}
use Rattle.kept_recovery.proofs.feeding.recover_all.Goals as goal

pub returns-clause-fed : goal.returns-clause-fed
returns-clause-fed g c =
    let files = g.S.Store.files in
    let fed = rw c.as_slice.ensures.value at c.in_ok-fed.ensures.fed in
    feeds_same g.Q.Requests.carries g.Q.Requests.ends (whole_told files c.args.store.now) (whole_told files c.recover.new.store)
    c.in_ok-numbers.numbers.jobs.items c.in_ok-fed.fed.items
    c.args.spool.now c.feed.new.spool (λ n. told_same files c.args.store.now c.recover.new.store n c.recover.ensures.same) fed

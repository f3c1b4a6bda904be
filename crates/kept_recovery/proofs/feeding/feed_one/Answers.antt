use Rattle.job_store.proofs.Moments.{one_called}
use Rattle.kept_recovery.proofs.feeding.feed_one.Goals as goal

pub returns-in-Ok-None-clause-any_moment : goal.returns-in-Ok-None-clause-any_moment
returns-in-Ok-None-clause-any_moment g c =
    one_called g.S.Store.moment g.S.Store.left_since g.S.Store.may_leave _ _ (g.met.S.Store.only_now c.args.store.now)
    c.open.ensures.crash c.open.ensures.time

pub returns-in-Err-clause-any_moment : goal.returns-in-Err-clause-any_moment
returns-in-Err-clause-any_moment g c =
    one_called g.S.Store.moment g.S.Store.left_since g.S.Store.may_leave _ _ (g.met.S.Store.only_now c.args.store.now)
    c.open.ensures.crash c.open.ensures.time

pub returns-in-Ok-Err-clause-any_moment : goal.returns-in-Ok-Err-clause-any_moment
returns-in-Ok-Err-clause-any_moment g c =
    one_called g.S.Store.moment g.S.Store.left_since g.S.Store.may_leave _ _ (g.met.S.Store.only_now c.args.store.now)
    c.open.ensures.crash c.open.ensures.time

pub returns-in-Err-read_sender-clause-any_moment : goal.returns-in-Err-read_sender-clause-any_moment
returns-in-Err-read_sender-clause-any_moment g c =
    one_called g.S.Store.moment g.S.Store.left_since g.S.Store.may_leave _ _ (g.met.S.Store.only_now c.args.store.now)
    c.open.ensures.crash c.open.ensures.time

pub returns-clause-any_moment : goal.returns-clause-any_moment
returns-clause-any_moment g c =
    one_called g.S.Store.moment g.S.Store.left_since g.S.Store.may_leave _ _ (g.met.S.Store.only_now c.args.store.now)
    c.open.ensures.crash c.open.ensures.time

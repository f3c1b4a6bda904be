use Rattle.std.proofs.lemmas.List.Sorted.{IsNonDecreasingBy-from_sort}
use Rattle.job_store.proofs.Listed.{is_free, is_taken, keeps_all, lists_failed, lists_jobs, reorders}
use Rattle.job_store.proofs.Moments.{none_called, one_more_called}
use Rattle.job_store.proofs.recovering.recover.Goals as goal

-- A return where temporary files stay.
pub returns-in_err-clear_partials-clause-any_moment : goal.returns-in_err-clear_partials-clause-any_moment
returns-in_err-clear_partials-clause-any_moment g c =
    let first = none_called g.S.Store.moment g.S.Store.left_since g.S.Store.may_leave c.args.store.now (g.met.S.Store.only_now
    c.args.store.now) in
    one_more_called g.S.Store.moment g.S.Store.left_since g.S.Store.may_leave _ _ _ first c.clear_partials.ensures.crash
    c.clear_partials.ensures.time

-- A return where the names aren't on the disk.
pub returns-in_err-sync_names-clause-any_moment : goal.returns-in_err-sync_names-clause-any_moment
returns-in_err-sync_names-clause-any_moment g c =
    let first = none_called g.S.Store.moment g.S.Store.left_since g.S.Store.may_leave c.args.store.now (g.met.S.Store.only_now
    c.args.store.now) in
    let cleared = one_more_called g.S.Store.moment g.S.Store.left_since g.S.Store.may_leave _ _ _ first c.clear_partials.ensures.crash
    c.clear_partials.ensures.time in
    one_more_called g.S.Store.moment g.S.Store.left_since g.S.Store.may_leave _ _ _ cleared c.sync_names.ensures.crash
    c.sync_names.ensures.time

-- A return where the files aren't listed.
pub returns-in_err-jobs-clause-any_moment : goal.returns-in_err-jobs-clause-any_moment
returns-in_err-jobs-clause-any_moment g c =
    let first = none_called g.S.Store.moment g.S.Store.left_since g.S.Store.may_leave c.args.store.now (g.met.S.Store.only_now
    c.args.store.now) in
    let cleared = one_more_called g.S.Store.moment g.S.Store.left_since g.S.Store.may_leave _ _ _ first c.clear_partials.ensures.crash
    c.clear_partials.ensures.time in
    let synced = one_more_called g.S.Store.moment g.S.Store.left_since g.S.Store.may_leave _ _ _ cleared c.sync_names.ensures.crash
    c.sync_names.ensures.time in
    one_more_called g.S.Store.moment g.S.Store.left_since g.S.Store.may_leave _ _ _ synced c.names.ensures.crash c.names.ensures.time

pub returns-clause-any_moment : goal.returns-clause-any_moment
returns-clause-any_moment g c =
    let first = none_called g.S.Store.moment g.S.Store.left_since g.S.Store.may_leave c.args.store.now (g.met.S.Store.only_now
    c.args.store.now) in
    let cleared = one_more_called g.S.Store.moment g.S.Store.left_since g.S.Store.may_leave _ _ _ first c.clear_partials.ensures.crash
    c.clear_partials.ensures.time in
    let synced = one_more_called g.S.Store.moment g.S.Store.left_since g.S.Store.may_leave _ _ _ cleared c.sync_names.ensures.crash
    c.sync_names.ensures.time in
    one_more_called g.S.Store.moment g.S.Store.left_since g.S.Store.may_leave _ _ _ synced c.names.ensures.crash c.names.ensures.time

pub returns-clause-jobs : goal.returns-clause-jobs
returns-clause-jobs g c =
    let lists = reorders g.S.Store.files c.sync_names.new.self c.in_ok-jobs.field-0.jobs.items c.sort_unstable.new.self.items
    c.in_ok-jobs.ensures.jobs c.sort_unstable.ensures.permutation in
    lists_jobs g.S.Store.files c.args.store.now c.clear_partials.new.self c.sync_names.new.self c.sort_unstable.new.self.items
    c.clear_partials.ensures.jobs c.sync_names.ensures.files lists

pub returns-clause-rising : goal.returns-clause-rising
returns-clause-rising g c = IsNonDecreasingBy-from_sort (λ x. x) _ c.sort_unstable.ensures.sorted

-- What is kept.
pub returns-clause-kept : goal.returns-clause-kept
returns-clause-kept g c =
    keeps_all g.S.Store.files g.S.Store.may_leave c.args.store.now c.clear_partials.new.self c.sync_names.new.self c.names.new.self
    c.requires.contents c.clear_partials.ensures.jobs c.sync_names.ensures.files c.names.ensures.files
    c.in_ok-sync_names.ensures.names (λ n o left. c.clear_partials.ensures.crash n o (c.sync_names.ensures.crash n o left))
    c.names.ensures.crash

-- Which numbers are free.
pub returns-clause-free : goal.returns-clause-free
returns-clause-free g c =
    let lists = reorders g.S.Store.files c.sync_names.new.self c.in_ok-jobs.field-0.jobs.items c.sort_unstable.new.self.items
    c.in_ok-jobs.ensures.jobs c.sort_unstable.ensures.permutation in
    let no_job = rw c.deref.ensures.value at c.number_above_both-next.ensures.jobs in
    let no_failed = rw c.deref-2.ensures.value at c.number_above_both-next.ensures.failed in
    is_free g.S.Store.files g.S.Store.may_leave c.clear_partials.new.self c.sync_names.new.self c.names.new.self
    c.sort_unstable.new.self.items c.in_ok-jobs.field-0.failed.items c.number_above_both-next.result
    c.in_ok-clear_partials.ensures.gone c.sync_names.ensures.files c.names.ensures.files c.in_ok-sync_names.ensures.names
    c.names.ensures.crash
    lists c.in_ok-jobs.ensures.failed no_job no_failed

-- That none is.
pub returns-clause-full : goal.returns-clause-full
returns-clause-full g c =
    let lists = reorders g.S.Store.files c.sync_names.new.self c.in_ok-jobs.field-0.jobs.items c.sort_unstable.new.self.items
    c.in_ok-jobs.ensures.jobs c.sort_unstable.ensures.permutation in
    let jobs = lists_jobs g.S.Store.files c.args.store.now c.clear_partials.new.self c.sync_names.new.self c.sort_unstable.new.self.items
    c.clear_partials.ensures.jobs c.sync_names.ensures.files lists in
    let failed = lists_failed g.S.Store.files c.args.store.now c.clear_partials.new.self c.sync_names.new.self
    c.in_ok-jobs.field-0.failed.items c.clear_partials.ensures.jobs c.sync_names.ensures.files c.in_ok-jobs.ensures.failed in
    let some = rw (c.deref.ensures.value, c.deref-2.ensures.value) at c.number_above_both-next.ensures.none in
    is_taken g.S.Store.files c.args.store.now c.sort_unstable.new.self.items c.in_ok-jobs.field-0.failed.items 18446744073709551615
    c.number_above_both-next.result jobs failed some

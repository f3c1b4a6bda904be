use Rattle.std.proofs.Common.{◌≡◌, IfSome, take}
use Rattle.job_store.specs.Files.{whole_told}
use Rattle.job_store.specs.Kept.{LeavesNoMore}
use Rattle.kept_recovery.specs.Feeding.{FeedsAll}
use Rattle.kept_recovery.proofs.feeding.feed.Given as goal

abbrev pub invariant-loop-job : goal.invariant-loop-job
invariant-loop-job g l = record {
  fed : FeedsAll g.Q.Requests.carries g.Q.Requests.ends (whole_told g.S.Store.files l.fn.store) (take l.job-index l.jobs) l.fed.items
      l.fn.spool l.spool;
  files : IfSome g.S.Store.files (λ tell. tell l.store ≡ tell l.fn.store);
  any_moment : LeavesNoMore g.S.Store.moment g.S.Store.left_since g.S.Store.may_leave l.fn.store l.store;
}

use Rattle.job_hand.proofs.Standing.{follows_broken, follows_kept, leaves_whole, moments_whole}
use Rattle.job_hand.proofs.hand.Hand.keep_whole.Goals as goal
use Rattle.job_hand.proofs.hand.Hand.keep_whole.Goals.{in-Ok, in-Err}

pub returns-clause-crash : goal.returns-clause-crash
returns-clause-crash g c = λ job h. elim c.match-keep.branch [
  | in-Ok w ↦ leaves_whole g.F.Folder.seen g.F.Folder.may_leave c.args.self.now c.keep.new.folder job h c.in-Coming.is c.if-not-is_whole.ensures c.keep.ensures.crash
  | in-Err w ↦ leaves_whole g.F.Folder.seen g.F.Folder.may_leave c.args.self.now c.keep.new.folder job h c.in-Coming.is c.if-not-is_whole.ensures c.keep.ensures.crash
]

pub returns-clause-follows : goal.returns-clause-follows
returns-clause-follows g c = λ job h. elim c.match-keep.branch [
  | in-Ok w ↦ follows_kept g.F.Folder.seen g.F.Folder.may_leave c.args.self.now _ job h c.in-Coming.is w.self-is c.if-not-is_whole.ensures w.in-Ok.ensures.kept
  | in-Err w ↦ follows_broken g.F.Folder.seen g.F.Folder.may_leave _ job _ w.self-is
]

pub returns-clause-moments : goal.returns-clause-moments
returns-clause-moments g c = λ job h.
    moments_whole g.F.Folder.seen g.F.Folder.may_leave g.F.Folder.moment g.F.Folder.left_since g.F.Folder.may_lack c.args.self.now c.keep.new.folder job h
    c.in-Coming.is c.if-not-is_whole.ensures c.keep.ensures.time c.keep.ensures.lacks

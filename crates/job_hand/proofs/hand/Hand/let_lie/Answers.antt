use Rattle.job_streams.specs.Stream.{stream}
use Rattle.job_hand.proofs.Standing.{moments_out}
use Rattle.job_hand.proofs.hand.Hand.let_lie.Goals as goal

pub returns-clause-moments : goal.returns-clause-moments
returns-clause-moments g c = λ job h.
    moments_out g.F.Folder.seen g.F.Folder.may_leave g.F.Folder.moment g.F.Folder.left_since g.F.Folder.may_lack c.args.self.now.folder c.leave.new.self
    c.leave.ensures.never c.leave.ensures.time (c.leave.ensures.lacks (stream job) h.kept)

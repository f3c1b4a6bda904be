use Rattle.std.proofs.Common.{None}
use Rattle.kept_requests.proofs.Passing.{given_up, or_none_leaves, or_none_moments}
use Rattle.kept_requests.proofs.requests.KeepingRequests.ask.Goals as goal

pub returns-in-Broken-clause-carries : goal.returns-in-Broken-clause-carries
returns-in-Broken-clause-carries g c = λ sender.
    let a = c.give_up.ensures.aborted sender in
    given_up g.Q.Requests.carries g.Q.Parks.beside g.F.Folder.seen g.F.Folder.may_leave g.F.Folder.moment g.F.Folder.left_since g.F.Folder.may_lack c.args.self.now c.give_up.new.self sender c.args.job _ a.0 _ a.1 c.give_up.ensures.broken c.give_up.ensures.passed
    (λ work h. or_none_leaves g.F.Folder.seen g.F.Folder.may_leave c.args.self.now.hand.folder c.give_up.new.self.hand.folder None c.give_up.ensures.crash)
    (λ work h. or_none_moments g.F.Folder.moment g.F.Folder.left_since g.F.Folder.may_lack g.F.Folder.seen g.F.Folder.may_leave c.args.self.now.hand.folder c.give_up.new.self.hand.folder None c.give_up.ensures.moments)

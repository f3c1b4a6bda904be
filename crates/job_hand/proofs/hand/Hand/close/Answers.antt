use Rattle.job_hand.proofs.Standing.{stands_end}
use Rattle.job_hand.proofs.hand.Hand.close.Goals as goal

pub returns-clause-stands : goal.returns-clause-stands
returns-clause-stands g c = λ job h.
    let here = c.in_ok-end_file.ensures.whole job h.knows in
    stands_end g.F.Folder.seen g.F.Folder.may_leave c.args.self.now _ job here.0 h
    (c.in_ok-end_file.ensures.knows job h.knows) here.1 here.2 c.in_ok-append.ensures.in_hand

use Rattle.std.proofs.Common.{refl}
use Rattle.job_hand.proofs.Standing.{stands_octets}
use Rattle.job_hand.proofs.hand.Hand.put_octets.Goals as goal

pub returns-clause-stands : goal.returns-clause-stands
returns-clause-stands g c = λ job h.
    let here = c.in_ok-put.ensures.coming job h.knows in
    stands_octets g.F.Folder.seen g.F.Folder.may_leave c.args.self.now _ c.args.octets.now job here.0 h
    (c.in_ok-put.ensures.knows c.args.octets.now refl job h.knows) here.1 c.in_ok-append.ensures.in_hand

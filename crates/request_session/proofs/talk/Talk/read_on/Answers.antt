use Rattle.std.proofs.Common.{drop}
use Rattle.request_session.specs.Served.{side}
use Rattle.request_session.specs.Turned.{moment}
use Rattle.request_session.proofs.Turning.{ends_after}
use Rattle.request_session.proofs.talk.Talk.read_on.Goals as goal

pub returns-in-Over-clause-turned : goal.returns-in-Over-clause-turned
returns-in-Over-clause-turned g c =
    let w = g.W.OctetWrite in
    let old = c.args in
    let mid = c.needs in
    let new = c.turn-count.new in
    ends_after g.T.Requests.carries (moment old.self.now old.octets.now old.spool.now (side (w.written old.writer.now) (w.faults old.writer.now)))
    (moment mid.self mid.rest.now mid.spool (side (w.written mid.writer) (w.faults mid.writer)))
    (moment new.self (drop c.turn-count.result.0 mid.rest.now) new.spool (side (w.written new.writer) (w.faults new.writer))) c.turn-count.result.1 c.in-Over.end c.in-Over.is mid.invariant.turned
    c.turn-count.ensures.turned

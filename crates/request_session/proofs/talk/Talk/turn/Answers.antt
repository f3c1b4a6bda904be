use Rattle.std.proofs.Common.{[], ◌∷◌, ap}
use Rattle.receiver.specs.View.{is_last}
use Rattle.request_session.specs.Served.{side}
use Rattle.request_session.specs.Turned.{moment}
use Rattle.request_session.proofs.Turning.{acks, asks, finishes, refuses, written_or}
use Rattle.request_session.proofs.talk.Talk.turn.Goals as goal

pub returns-in-Ack-clause-turned : goal.returns-in-Ack-clause-turned
returns-in-Ack-clause-turned g c =
    let w = g.W.OctetWrite in
    let a = c.advance-count in
    let old = side (w.written c.args.writer.now) (w.faults c.args.writer.now) in
    let new = side (w.written c.write_all.new.writer) (w.faults c.write_all.new.writer) in
    acks g.T.Requests.carries (moment c.args.self.now c.args.rest.now c.args.spool.now old) a.new.self a.result.0 a.result.1 a.ensures.step new c.write_all.result c.turn_after.result c.in-Ack.is c.turn_after.ensures
    (written_or c.write_all.result (0 ∷ []) old new c.write_all.ensures.ok c.write_all.ensures.err)

pub returns-in-Fault-clause-turned : goal.returns-in-Fault-clause-turned
returns-in-Fault-clause-turned g c =
    let w = g.W.OctetWrite in
    let a = c.advance-count in
    refuses g.T.Requests.carries (moment c.args.self.now c.args.rest.now c.args.spool.now (side (w.written c.args.writer.now) (w.faults c.args.writer.now))) a.new.self a.result.0 a.result.1 a.ensures.step c.in-Fault.refusal
    c.in-Fault.is (a.ensures.leaves.over (ap is_last c.in-Fault.is))

pub returns-in-Ended-clause-turned : goal.returns-in-Ended-clause-turned
returns-in-Ended-clause-turned g c =
    let w = g.W.OctetWrite in
    let a = c.advance-count in
    finishes g.T.Requests.carries (moment c.args.self.now c.args.rest.now c.args.spool.now (side (w.written c.args.writer.now) (w.faults c.args.writer.now))) a.new.self a.result.0 a.result.1 a.ensures.step c.in-Ended.is

pub returns-in_default-clause-turned : goal.returns-in_default-clause-turned
returns-in_default-clause-turned g c =
    let w = g.W.OctetWrite in
    let a = c.advance-count in
    let new = c.answer-written.new in
    let answered = c.answer-written.ensures in
    asks g.T.Requests.carries (moment c.args.self.now c.args.rest.now c.args.spool.now (side (w.written c.args.writer.now) (w.faults c.args.writer.now))) a.new.self a.result.0 a.result.1 a.ensures.step new.self new.spool
    (side (w.written new.writer) (w.faults new.writer)) answered.0 c.answer-written.result c.turn_after-in_default.result a.ensures.leaves.owed answered.1 c.turn_after-in_default.ensures answered.2

use Rattle.std.proofs.Common.{◌≡◌, None}
use Rattle.request_session.specs.declared.talk.Turn.TheVariants.{On}
use Rattle.request_session.specs.Served.{side}
use Rattle.request_session.specs.Turned.{TurnsFrom, moment}
use Rattle.request_session.proofs.talk.Talk.read_on.Given as goal

-- the session goes on with what is left of the octets
abbrev pub invariant-needs : goal.invariant-needs
invariant-needs g l = record {
  turned : TurnsFrom g.T.Requests.carries On
      (moment l.fn.self l.fn.octets l.fn.spool
      (side (g.W.OctetWrite.written l.fn.writer) (g.W.OctetWrite.faults l.fn.writer)))
      (moment l.self l.rest l.spool (side (g.W.OctetWrite.written l.writer) (g.W.OctetWrite.faults l.writer)));
  nothing : l.self.receiver.owed ≡ None;
}

use Rattle.std.proofs.Common.{◌≡◌, ◌≤◌, [], None, length}
use Rattle.lpd_commands.specs.Ends.{Took, many_more, most_reads}
use Rattle.request_session.specs.Course.{Course, session_after}
use Rattle.request_session.specs.Served.{Awaits, side}
use Rattle.request_session.specs.Turned.{GoesOn, moment}
use Rattle.request_session.proofs.talk.Talk.read_all.Given as goal

-- all that was read is done, and each read, which was counted, gave an octet
abbrev pub invariant-reads : goal.invariant-reads
invariant-reads g l = record {
  course : Course;
  goes : GoesOn g.T.Requests.carries course
      (moment l.fn.self [] l.fn.spool
      (side (g.W.OctetWrite.written l.fn.writer) (g.W.OctetWrite.faults l.fn.writer)))
      (moment l.self [] l.spool (side (g.W.OctetWrite.written l.writer) (g.W.OctetWrite.faults l.writer)));
  awaits : Awaits (session_after l.fn.self.sender course);
  took : Took (g.I.OctetRead.left l.fn.reader) (g.I.OctetRead.left l.reader)
      (session_after l.fn.self.sender course).arrived;
  faults : g.I.OctetRead.faults l.reader ≡ g.I.OctetRead.faults l.fn.reader;
  reads : g.I.OctetRead.reads l.reader ≡ many_more l._i (g.I.OctetRead.reads l.fn.reader);
  within : l._i ≤ most_reads;
  many : l._i ≤ length (session_after l.fn.self.sender course).arrived;
  nothing : l.self.receiver.owed ≡ None;
}

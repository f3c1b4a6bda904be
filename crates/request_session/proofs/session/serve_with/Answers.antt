use Rattle.std.proofs.Common.{ℕ, [], subst}
use Rattle.request_session.specs.Served.{ServedBy, Side, Source, around, side, source}
use Rattle.request_session.specs.Turned.{moment}
use Rattle.request_session.proofs.EndLemmas.{not_begun, served}
use Rattle.request_session.proofs.session.serve_with.Goals as goal

pub returns : goal.returns
returns g c =
    let r = g.I.OctetRead in
    let w = g.W.OctetWrite in
    let reader : Source = source (r.left c.args.reader.now) (r.faults c.args.reader.now) (r.reads c.args.reader.now) in
    let reader' : Source = source (r.left c.read_all-end.new.reader) (r.faults c.read_all-end.new.reader) (r.reads c.read_all-end.new.reader) in
    let writer : Side = side (w.written c.args.writer.now) (w.faults c.args.writer.now) in
    let writer' : Side = side (w.written c.say_last.new.writer) (w.faults c.say_last.new.writer) in
    let over = c.read_all-end.ensures.over in
    subst (λ (n : ℕ). ServedBy g.T.Requests.carries g.T.Requests.ends c.say_last.result n (around reader writer c.args.spool.now) (around reader' writer' c.hang_up.new.spool)) c.new-talk.ensures.sender
    (served g.T.Requests.carries g.T.Requests.ends over.0 (moment c.new-talk.result [] c.args.spool.now writer) (moment c.read_all-end.new.self [] c.read_all-end.new.spool (side (w.written c.read_all-end.new.writer) (w.faults c.read_all-end.new.writer)))
    reader reader' writer' c.hang_up.new.spool c.hang_up.ensures.ends c.read_all-end.result c.say_last.result over.1 over.2 c.say_last.ensures)

pub returns-in_default : goal.returns-in_default
returns-in_default g c =
    let r = g.I.OctetRead in
    let w = g.W.OctetWrite in
    let reader = c.args.reader.now in
    let writer = c.args.writer.now in
    not_begun g.T.Requests.carries g.T.Requests.ends c.args.sender (around (source (r.left reader) (r.faults reader) (r.reads reader)) (side (w.written writer) (w.faults writer)) c.args.spool.now)

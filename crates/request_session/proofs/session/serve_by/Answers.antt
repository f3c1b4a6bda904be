use Rattle.request_session.specs.Served.{around, side, source}
use Rattle.request_session.proofs.EndLemmas.{not_begun}
use Rattle.request_session.proofs.session.serve_by.Goals as goal

pub returns-in_default : goal.returns-in_default
returns-in_default g c =
    let r = g.I.OctetRead in
    let w = g.W.OctetWrite in
    let reader = c.args.reader.now in
    let writer = c.args.writer.now in
    not_begun g.T.Requests.carries g.T.Requests.ends c.args.sender (around (source (r.left reader) (r.faults reader) (r.reads reader)) (side (w.written writer) (w.faults writer)) c.args.spool.now)

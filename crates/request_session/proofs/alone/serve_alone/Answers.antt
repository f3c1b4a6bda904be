use Rattle.request_session.specs.Served.{around, side, source}
use Rattle.request_session.proofs.Growing.{alone}
use Rattle.request_session.proofs.alone.serve_alone.Goals as goal

pub returns : goal.returns
returns g c =
    let r = g.I.OctetRead in
    let w = g.W.OctetWrite in
    let old = c.args in
    let new = c.serve_by.new in
    alone c.serve_by.result old.sender (around (source (r.left old.reader.now) (r.faults old.reader.now) (r.reads old.reader.now)) (side (w.written old.writer.now) (w.faults old.writer.now)) old.core.now)
    (around (source (r.left new.reader) (r.faults new.reader) (r.reads new.reader)) (side (w.written new.writer) (w.faults new.writer)) new.spool) c.serve_by.ensures

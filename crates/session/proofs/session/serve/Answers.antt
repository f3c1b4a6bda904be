use Rattle.std.proofs.Common.{sym, subst}
use Rattle.spool_ledgers.specs.Sums.{Sums}
use Rattle.request_session.specs.Served.{Side, Source, around, side, source}
use Rattle.session.specs.Served.{Served}
use Rattle.session.proofs.Counting.{counted}
use Rattle.session.proofs.session.serve.Goals as goal

pub returns : goal.returns
returns g c =
    let r = g.I.OctetRead in
    let w = g.W.OctetWrite in
    let reader : Source = source (r.left c.args.reader.now) (r.faults c.args.reader.now) (r.reads c.args.reader.now) in
    let reader' : Source = source (r.left c.serve_by-end.new.reader) (r.faults c.serve_by-end.new.reader) (r.reads c.serve_by-end.new.reader) in
    let writer : Side = side (w.written c.args.writer.now) (w.faults c.args.writer.now) in
    let writer' : Side = side (w.written c.serve_by-end.new.writer) (w.faults c.serve_by-end.new.writer) in
    subst (λ (s : Sums). Served c.serve_by-end.result c.args.sender (around reader writer s) (around reader' writer' c.into_seat.result)) c.new-seated.ensures
    (subst (λ (s : Sums). Served c.serve_by-end.result c.args.sender (around reader writer c.new-seated.result) (around reader' writer' s)) (sym c.into_seat.ensures)
    (counted c.serve_by-end.result c.args.sender (around reader writer c.new-seated.result) (around reader' writer' c.serve_by-end.new.spool) c.serve_by-end.ensures))

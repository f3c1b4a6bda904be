use Rattle.std.proofs.Common.{◌≤◌, ◌++◌, ◌-◌, take, length, ap, ◌∙◌, arith}
use Rattle.std.proofs.lemmas.List.{length-take-le}
use Rattle.status_request.proofs.PieceLemmas.{grown}
use Rattle.status_request.proofs.incoming.Incoming.read_from.Goals as goal

pub returns-clause-grows : goal.returns-clause-grows
returns-clause-grows g c =
    let n = c.in_ok-count.count in
    let i = c.self.inside in
    let within : n ≤ length c.read.new.buf = omega (arith, c.in_ok-count.ensures.bound) in
    (take n c.read.new.buf, length-take-le n c.read.new.buf within, grown i.count (8192 - i.count) n i.buffer c.read.new.buf (omega arith) within ∙ ap (λ v. v ++ take n c.read.new.buf) c.self.view_is)

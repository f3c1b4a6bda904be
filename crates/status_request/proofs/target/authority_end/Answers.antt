use Rattle.std.proofs.Common.{◌≡◌, true, get_or, sym, ap, arith}
use Rattle.status_request.specs.Asked.{ends_authority}
use Rattle.status_request.proofs.PieceLemmas.{place_by}
use Rattle.status_request.proofs.target.authority_end.Goals as goal
use Rattle.status_request.proofs.target.authority_end.Goals.{then-octet-eq47-via-then-octet-eq47, then-octet-eq47-via-else-octet-eq47+then-octet-eq63}

pub returns-clause-place : goal.returns-clause-place
returns-clause-place c =
    sym (place_by ends_authority c.args.rest.now _ (omega arith) (λ k h. c.loop-i.invariant k (omega arith)) (λ h. absurd (omega arith)))

pub returns-then-octet-eq47-clause-place : goal.returns-then-octet-eq47-clause-place
returns-then-octet-eq47-clause-place c =
    let octets = c.args.rest.now in
    let here : ends_authority (get_or octets c.loop-i.i 0) ≡ true =
    elim c.then-octet-eq47.branch [
      | then-octet-eq47-via-then-octet-eq47 w ↦ ap ends_authority w.if-octet-eq47.true
      | then-octet-eq47-via-else-octet-eq47+then-octet-eq63 w ↦ ap ends_authority w.if-octet-eq63.true
    ] in
    sym (place_by ends_authority octets c.loop-i.i (omega arith) c.loop-i.invariant (λ _. here))

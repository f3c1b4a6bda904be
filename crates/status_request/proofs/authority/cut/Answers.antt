use Rattle.std.proofs.Common.{◌≡◌, ◌+◌, take, drop, ap, sym, ◌∙◌, arith}
use Rattle.std.specs.List.{position_or_len}
use Rattle.status_request.specs.Authority.{is_colon}
use Rattle.status_request.proofs.PieceLemmas.{place_by, whole_rest}
use Rattle.status_request.proofs.authority.cut.Goals as goal

pub returns-then-octet-eq58 : goal.returns-then-octet-eq58
returns-then-octet-eq58 c =
    let value = c.args.value.now in
    let i = c.loop-i.i in
    let e : position_or_len is_colon value ≡ i = place_by is_colon value i (omega arith) c.loop-i.invariant (λ _. ap is_colon c.if-octet-eq58.true) in
    (omega (arith, e), ap (λ n. take n value) (sym e), whole_rest value (i + 1) ∙ ap (λ n. drop (n + 1) value) (sym e))

pub returns : goal.returns
returns c = place_by is_colon c.args.value.now _ (omega arith) (λ k h. c.loop-i.invariant k (omega arith)) (λ h. absurd (omega arith))

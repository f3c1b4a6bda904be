use Rattle.std.proofs.Common.{◌≡◌, arith, subst, ◌<◌, ◌^◌, ℕ}
use Rattle.program_edge.proofs.NumeralLemmas.{one_plain_number}
use Rattle.program_edge.proofs.status.port_of.Goals as goal

pub returns-then-number-eq0-clause-none : goal.returns-then-number-eq0-clause-none
returns-then-number-eq0-clause-none c port named positive small =
    let same : c.in_ok-number.number ≡ port = one_plain_number _ _ _ c.in_ok-number.ensures.number named in
    absurd (omega (arith, same, positive, c.if-number-eq0.true))

pub returns-in-Err-clause-none : goal.returns-in-Err-clause-none
returns-in-Err-clause-none c port named positive small =
    let same : port ≡ c.in_ok-number.number = one_plain_number _ _ _ named c.in_ok-number.ensures.number in
    c.in-Err.ensures (subst (λ (n : ℕ). n < 2 ^ 16) same small)

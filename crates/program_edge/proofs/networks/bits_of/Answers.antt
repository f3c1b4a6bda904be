use Rattle.std.proofs.Common.{◌≡◌, arith}
use Rattle.program_edge.proofs.NumeralLemmas.{one_plain_number}
use Rattle.program_edge.proofs.networks.bits_of.Goals as goal

pub returns-then-bits-gt32-clause-none : goal.returns-then-bits-gt32-clause-none
returns-then-bits-gt32-clause-none c bits named =
    let there = rw c.in-Some.is at named in
    let same : c.in_ok-bits.bits ≡ bits = one_plain_number _ _ _ c.in_ok-bits.ensures.number there.0 in
    absurd (omega (arith, same, there.1, c.if-bits-gt32.true))

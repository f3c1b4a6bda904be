use Rattle.std.proofs.Common.{◌≡◌, ◌-◌, ◌^◌, ◌%◌, IsTrue, subst, sym}
use Rattle.std.proofs.NetLemmas.Theorems.{IsIpv4Text_unique}
use Rattle.std.specs.Net.Addr.{ipv4_bits}
use Rattle.std.specs.Net.Grammar.{IsIpv4Text}
use Rattle.program_edge.proofs.NetworkLemmas.{bits_behind, one_number}
use Rattle.program_edge.proofs.networks.Network.read.Goals as goal

pub returns-in_default-clause-none : goal.returns-in_default-clause-none
returns-in_default-clause-none c network named =
    c.in_default.ensures.none network.bits (bits_behind _ _ c.parts_of.ensures.bits _ named.bits)

pub returns-in_default-parse-clause-none : goal.returns-in_default-parse-clause-none
returns-in_default-parse-clause-none c network named =
    c.in_default-parse.ensures.value network.address (subst (λ t. IsIpv4Text t network.address) (sym c.parts_of.ensures.address) named.address)

pub returns-then-not-ends_there-clause-none : goal.returns-then-not-ends_there-clause-none
returns-then-not-ends_there-clause-none c network named =
    let bits = one_number _ _ _ c.in-Some.ensures.bits (bits_behind _ _ c.parts_of.ensures.bits _ named.bits) in
    let address = IsIpv4Text_unique _ _ _ c.in-Ok.ensures.value (subst (λ t. IsIpv4Text t network.address) (sym c.parts_of.ensures.address) named.address) in
    let exact : ipv4_bits c.in-Ok.address % 2 ^ (32 - c.in-Some.bits) ≡ 0 =
    subst (λ a. ipv4_bits a % 2 ^ (32 - c.in-Some.bits) ≡ 0) (sym address)
    (subst (λ b. ipv4_bits network.address % 2 ^ (32 - b) ≡ 0) (sym bits) named.exact) in
    let ends : IsTrue c.ends_there.result = c.ends_there.ensures.1 exact in
    let not_ends = c.if-not-ends_there.true in
    cc

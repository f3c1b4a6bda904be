use Rattle.std.proofs.Common.{◌≡◌, ◌<◌, arith, subst, sym}
use Rattle.std.proofs.NetLemmas.Theorems.{IsSocketV4Text_unique}
use Rattle.std.specs.Net.Socket.{v4_port}
use Rattle.std.specs.declared.net.socket_addr.SocketAddrV4.{SocketAddrV4}
use Rattle.program_edge.proofs.places.socket_of.Goals as goal

pub returns-in_default-clause-none : goal.returns-in_default-clause-none
returns-in_default-clause-none c socket is over = c.in_default.ensures.value socket is

pub returns-then-port-eq0-clause-none : goal.returns-then-port-eq0-clause-none
returns-then-port-eq0-clause-none c socket is over =
    let same : c.in-Ok.socket ≡ socket = IsSocketV4Text_unique _ _ _ c.in-Ok.ensures.value is in
    let positive = subst (λ (a : SocketAddrV4). 0 < v4_port a) (sym same) over in
    absurd (omega (arith, positive, c.port.ensures, c.if-port-eq0.true))

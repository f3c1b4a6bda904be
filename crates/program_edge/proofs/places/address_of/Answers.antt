use Rattle.std.proofs.Common.{Option, Some, None}
use Rattle.std.specs.Prelude.{IfNone}
use Rattle.std.specs.declared.net.socket_addr.SocketAddrV4.{SocketAddrV4}
use Rattle.program_edge.proofs.PlaceLemmas.{no_socket}
use Rattle.program_edge.proofs.places.address_of.Goals as goal

pub returns-clause-none : goal.returns-clause-none
returns-clause-none c = if_none_weaker c.socket_of.result (no_socket c.args.text.now c.in_default.ensures.value) c.socket_of.ensures.none
  where
    if_none_weaker : {A B : Type 0} (o : Option SocketAddrV4) → (A → B) → IfNone o A → IfNone o B
    if_none_weaker None f h = f h
    if_none_weaker (Some x) f h = tt

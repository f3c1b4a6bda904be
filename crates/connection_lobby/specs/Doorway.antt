-- Who may come in.
use Rattle.std.specs.Prelude.{◌==◌, ◌||◌, Bool, List, false, length}
use Rattle.std.specs.List.{list_any}
use Rattle.std.specs.declared.net.ip_addr.IpAddr.{IpAddr}
use Rattle.std.specs.declared.net.ip_addr.IpAddr.TheVariants.{V4, V6}
use Rattle.std.specs.declared.net.ipv4_addr.Ipv4Addr.{Ipv4Addr}
use Rattle.program_edge.specs.Networks.{has_in}
use Rattle.program_edge.specs.declared.networks.Network.{Network}

-- an address is in one of these networks
abbrev pub is_in_one : List Network → Ipv4Addr → Bool
is_in_one networks address = list_any (λ network. has_in network address) networks

-- where no network is named each may, else an address of one of these
abbrev pub may_come : List Network → IpAddr → Bool
may_come networks (V4 address) = (length networks == 0) || is_in_one networks address
may_come networks (V6 address) = length networks == 0

-- a connection from here begins with the header of a proxy
abbrev pub speaks_for_others : List Network → IpAddr → Bool
speaks_for_others networks (V4 address) = is_in_one networks address
speaks_for_others networks (V6 address) = false

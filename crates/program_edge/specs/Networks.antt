-- Networks.
use Rattle.std.specs.Prelude.{◌≡◌, ◌==◌, ◌<◌, ◌-◌, ◌^◌, ◌/◌, ◌%◌, ◌⊎◌, ◌∷◌, ℕ, Bool, List, [], length}
use Rattle.std.specs.List.{after_first, before_first, position_or_len}
use Rattle.std.specs.Net.Addr.{ipv4_bits}
use Rattle.std.specs.Net.Grammar.{IsIpv4Text}
use Rattle.std.specs.declared.net.ipv4_addr.Ipv4Addr.{Ipv4Addr}
use Rattle.program_edge.specs.NetworkParts.{IsBitsText, is_slash}
use Rattle.program_edge.specs.declared.networks.Network.{Network}

-- how many bits a network's text names: the number behind its first slash, or without one all
abbrev pub NamesBits : List ℕ → ℕ → Type 0
NamesBits text bits =
    ((position_or_len is_slash text ≡ length text) × (bits ≡ 32))
    ⊎ ((position_or_len is_slash text < length text) × IsBitsText (after_first is_slash text) bits)

-- a text names a network: an address, how many of its bits, and none is set behind these
pub record IsNetworkText (text : List ℕ) (network : Network) : Type 0 where
  pub address : IsIpv4Text (before_first is_slash text) network.address
  pub bits : NamesBits text network.bits
  pub exact : ipv4_bits network.address % 2 ^ (32 - network.bits) ≡ 0

-- an address begins with the bits of a network
abbrev pub has_in : Network → Ipv4Addr → Bool
has_in network address =
    ipv4_bits network.address / 2 ^ (32 - network.bits) == ipv4_bits address / 2 ^ (32 - network.bits)

-- texts name networks, one each, in order
abbrev pub NameNetworks : List (List ℕ) → List Network → Type 0
NameNetworks [] [] = Unit {0}
NameNetworks [] (network ∷ networks) = ⊥
NameNetworks (text ∷ texts) [] = ⊥
NameNetworks (text ∷ texts) (network ∷ networks) =
    IsNetworkText text network × NameNetworks texts networks

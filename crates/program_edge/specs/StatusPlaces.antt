-- Where a server shows its status, and by which name.
use Rattle.std.specs.Prelude.{◌≡◌, ◌==◌, ◌&&◌, ◌||◌, ◌⊎◌, ◌<◌, ◌≤◌, ◌^◌, ℕ, Bool, IsTrue, List, length, nat_le}
use Rattle.std.specs.List.{list_all}
use Rattle.std.specs.Net.Grammar.{IsSocketV4Text}
use Rattle.std.specs.Net.Socket.{v4_ip, v4_port}
use Rattle.std.specs.declared.net.ipv4_addr.TheConstants.Ipv4Addr.{LOCALHOST}
use Rattle.std.specs.declared.net.socket_addr.SocketAddrV4.{SocketAddrV4}
use Rattle.program_edge.specs.Numerals.{IsPlainNumber}
use Rattle.program_edge.specs.declared.status.StatusPlace.{StatusPlace}

-- a port alone, of 127.0.0.1
abbrev pub IsLocalPort : List ℕ → StatusPlace → Type 0
IsLocalPort text place =
    IsPlainNumber text place.port × (place.port < 2 ^ 16) × (place.address ≡ LOCALHOST)

-- an address and a port, with a colon between
abbrev pub IsSocketPlace : List ℕ → StatusPlace → Type 0
IsSocketPlace text place =
    (socket : SocketAddrV4) × IsSocketV4Text text socket × (v4_ip socket ≡ place.address)
    × (v4_port socket ≡ place.port)

-- a text names where the status is shown: a port of 127.0.0.1, or an address and a port, which isn't 0
abbrev pub IsStatusText : List ℕ → StatusPlace → Type 0
IsStatusText text place = (IsLocalPort text place ⊎ IsSocketPlace text place) × (0 < place.port)

-- a letter, a digit, - or .
abbrev pub is_host_octet : ℕ → Bool
is_host_octet octet =
    ((nat_le 65 octet && nat_le octet 90) || (nat_le 97 octet && nat_le octet 122) || (nat_le 48 octet && nat_le octet 57))
    || octet == 45 || octet == 46

-- the name of a host
abbrev pub IsHostName : List ℕ → Type 0
IsHostName text =
    (0 < length text) × (length text ≤ 253) × IsTrue (list_all is_host_octet text)

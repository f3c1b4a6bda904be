-- The number that stands for a host.
use Rattle.std.specs.Prelude.{ℕ}
use Rattle.std.specs.Net.Addr.{ipv4_bits}
use Rattle.std.specs.declared.net.ip_addr.IpAddr.{IpAddr}
use Rattle.std.specs.declared.net.ip_addr.IpAddr.TheVariants.{V4, V6}

-- the four octets of its address
abbrev pub host_number : IpAddr → ℕ
host_number (V4 address) = ipv4_bits address
host_number (V6 address) = 0

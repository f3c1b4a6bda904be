-- Which server a request names: an authority (RFC 3986, section 3.2), as the field Host has one, and a target in absolute form.
use Rattle.std.specs.Prelude.{◌≡◌, ◌<◌, ◌⊎◌, ◌==◌, ◌&&◌, ℕ, ◌+◌, ◌-◌, ◌*◌, Bool, IsTrue, List, Option, Some, None, codes, fold, length, map, nat_le, nat_lt, if◌then◌else◌}
use Rattle.std.specs.Char.{is_ascii_digit, to_ascii_lowercase}
use Rattle.std.specs.List.{after_first, before_first, list_all, position_or_len}
use Rattle.std.specs.Net.Grammar.{IsIpv4Text}
use Rattle.std.specs.declared.net.ipv4_addr.Ipv4Addr.{Ipv4Addr}

abbrev pub is_colon : ℕ → Bool
is_colon b = b == 58

-- octets without a colon
abbrev pub HasNoColon : List ℕ → Type 0
HasNoColon value = position_or_len is_colon value ≡ length value

-- octets with a colon are cut at the first one: into what stands before it, and what stands behind it
abbrev pub IsCutAtColon : List ℕ → List ℕ → List ℕ → Type 0
IsCutAtColon value before after =
    (position_or_len is_colon value < length value) × (before ≡ before_first is_colon value) × (after ≡ after_first is_colon value)

-- the same but for the case of letters (RFC 3986, section 3.2.2)
abbrev pub IsSameName : List ℕ → List ℕ → Type 0
IsSameName host name = map to_ascii_lowercase host ≡ map to_ascii_lowercase name

-- an IPv4 address: four numbers of 0 to 255 with points between (RFC 3986, section 3.2.2)
abbrev pub IsAddress : List ℕ → Type 0
IsAddress host = (address : Ipv4Addr) × IsIpv4Text host address

-- the server of this name: any IPv4 address, which no name service answers, `localhost`, or the name
abbrev pub IsHere : List ℕ → List ℕ → Type 0
IsHere name host = IsAddress host ⊎ IsSameName host (codes "localhost") ⊎ IsSameName host name

-- the number that digits write
abbrev pub value_of : List ℕ → ℕ
value_of digits = fold (λ n d. n * 10 + (d - 48)) 0 digits

-- the number that a text writes, where it is of digits alone
abbrev pub digits_value : List ℕ → Option ℕ
digits_value text = if list_all is_ascii_digit text then Some (value_of text) else None

-- a port: one to five digits that write a number of at most 65,535 (RFC 3986, section 3.2.3; RFC 9293, section 3.1)
abbrev pub is_port : List ℕ → Bool
is_port text = nat_lt 0 (length text) && nat_le (length text) 5 && list_all is_ascii_digit text && nat_le (value_of text) 65535

-- what stands behind the first colon, where there is one, is a port
abbrev pub HasPortOrNone : List ℕ → Type 0
HasPortOrNone value = position_or_len is_colon value < length value → IsTrue (is_port (after_first is_colon value))

-- an authority is the server of this name, with a port behind a colon or without, and nothing else: so nobody's name is before an `@`
abbrev pub NamesHere : List ℕ → List ℕ → Type 0
NamesHere name value = IsHere name (before_first is_colon value) × HasPortOrNone value

-- The numbers that stand for hosts: equal hosts are one sender.
use Rattle.std.specs.Prelude.{ℕ, List, [], ◌∷◌, ◌++◌, if◌then◌else◌}
use Rattle.std.specs.List.{list_any, position_or_len}
use Rattle.std.specs.Str.{bytes_eq}

-- The number of a host, where these others connected before, each once and in order of first connection: its place among
-- them, from 0, or how many they are.
abbrev pub sender_of : List (List ℕ) → List ℕ → ℕ
sender_of hosts host = position_or_len (bytes_eq host) hosts

-- the hosts that connected, once this one has
abbrev pub with_host : List (List ℕ) → List ℕ → List (List ℕ)
with_host hosts host = if list_any (bytes_eq host) hosts then hosts else hosts ++ host ∷ []

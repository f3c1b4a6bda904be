-- Where a session may end with nothing lost.
use Rattle.std.specs.Prelude.{◌≡◌, false, []}
use Rattle.receiver.specs.Reading.{Progress}

-- between blocks, with no job in hand and no octet of a line read
abbrev pub IsIdle : Progress → Type 0
IsIdle s = (s.job ≡ false) × (s.items ≡ []) × (s.tail ≡ [])

-- The number, the name and the acknowledgement octet of each refusal.
use Rattle.std.specs.Prelude.{ℕ, List, ◌++◌, codes}
use Rattle.std.specs.Fmt.{decimal}
use Rattle.lpd_values.specs.declared.refusal.Refusal.{Refusal}
use Rattle.lpd_values.specs.declared.refusal.Refusal.TheVariants as refusal

abbrev pub number_of : Refusal → ℕ
number_of refusal.UnknownQueue = 1
number_of refusal.TableFull = 2
number_of refusal.AccountFull = 3
number_of refusal.Closed = 4
number_of refusal.OverClaim = 5
number_of refusal.ControlTwice = 6
number_of refusal.NameTaken = 7
number_of refusal.FilesFull = 8
number_of refusal.FileOpen = 9
number_of refusal.NotOpen = 10
number_of refusal.Memory = 12
number_of refusal.BadCode = 30
number_of refusal.BadLine = 31
number_of refusal.LineTooLong = 32
number_of refusal.BadCount = 33
number_of refusal.BadName = 34
number_of refusal.NoZero = 35
number_of refusal.NoHost = 40
number_of refusal.NoUser = 41
number_of refusal.NoPrintLine = 42
number_of refusal.TooManyPrints = 43
number_of refusal.BadLength = 44

abbrev pub name_of : Refusal → List ℕ
name_of refusal.UnknownQueue = codes "UnknownQueue"
name_of refusal.TableFull = codes "TableFull"
name_of refusal.AccountFull = codes "AccountFull"
name_of refusal.Closed = codes "Closed"
name_of refusal.OverClaim = codes "OverClaim"
name_of refusal.ControlTwice = codes "ControlTwice"
name_of refusal.NameTaken = codes "NameTaken"
name_of refusal.FilesFull = codes "FilesFull"
name_of refusal.FileOpen = codes "FileOpen"
name_of refusal.NotOpen = codes "NotOpen"
name_of refusal.Memory = codes "Memory"
name_of refusal.BadCode = codes "BadCode"
name_of refusal.BadLine = codes "BadLine"
name_of refusal.LineTooLong = codes "LineTooLong"
name_of refusal.BadCount = codes "BadCount"
name_of refusal.BadName = codes "BadName"
name_of refusal.NoZero = codes "NoZero"
name_of refusal.NoHost = codes "NoHost"
name_of refusal.NoUser = codes "NoUser"
name_of refusal.NoPrintLine = codes "NoPrintLine"
name_of refusal.TooManyPrints = codes "TooManyPrints"
name_of refusal.BadLength = codes "BadLength"

-- how it is told: its number and its name
abbrev pub refusal_words : Refusal → List ℕ
refusal_words r = decimal (number_of r) ++ (codes " " ++ name_of r)

-- 2 where it may be granted later, else 1
abbrev pub octet_of : Refusal → ℕ
octet_of refusal.TableFull = 2
octet_of refusal.AccountFull = 2
octet_of refusal.Closed = 2
octet_of refusal.NotOpen = 2
octet_of refusal.Memory = 2
octet_of _ = 1

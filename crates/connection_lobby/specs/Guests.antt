-- Which of the connections that wait leaves.
use Rattle.std.specs.Prelude.{◌≡◌, ◌⊎◌, ℕ, Some, None, MatchOption, if◌then◌else◌, is_some}
use Rattle.std.specs.Ordering.{nat_cmp}
use Rattle.std.specs.BTreeMap.{BTreeMap, IsEmpty, IsLowerBound, IsUnchanged, Updates, get}
use Rattle.connection_lobby.specs.declared.guests.Guests.{Guests}
use Rattle.connection_lobby.specs.declared.guests.GuestStage.{GuestStage}
use Rattle.connection_lobby.specs.declared.guests.GuestStage.TheVariants.{Silent, Begun, Ready}

-- nobody waits for the rest of its first line
abbrev pub IsNobody : Guests → Type 0
IsNobody guests = IsEmpty guests.silent × IsEmpty guests.begun

-- how far the one of this number has come
abbrev pub stage_of : Guests → ℕ → GuestStage
stage_of guests number =
    if is_some (get nat_cmp guests.silent number) then Silent
    else if is_some (get nat_cmp guests.begun number) then Begun
    else Ready

-- this place is that of the one with the smallest number, which came first
abbrev pub IsOldest : BTreeMap ℕ ℕ → ℕ → Type 0
IsOldest guests at = (number : ℕ) × (get nat_cmp guests number ≡ Some at) × IsLowerBound nat_cmp guests number

-- this place's guest leaves: the oldest that has sent nothing, or, where each has sent something, the oldest whose first line has begun
abbrev pub Leaves : Guests → ℕ → Type 0
Leaves guests at = IsOldest guests.silent at ⊎ IsEmpty guests.silent × IsOldest guests.begun at

-- everybody has the place that it had, and has come as far
abbrev pub IsAsBefore : Guests → Guests → Type 0
IsAsBefore old new = IsUnchanged old.silent new.silent × IsUnchanged old.begun new.begun

-- the one of this number, which had sent nothing, keeps its place, and its first line has begun; all others are as before
abbrev pub Begins : Guests → Guests → ℕ → Type 0
Begins old new number = MatchOption (get nat_cmp old.silent number) (IsAsBefore old new)
    (λ at. Updates nat_cmp old.silent new.silent number None × Updates nat_cmp old.begun new.begun number (Some at))

-- Times as they stand in a line: which are of a day that there is, and which comes first.
use Rattle.std.specs.Prelude.{◌==◌, ◌&&◌, ◌||◌, ◌+◌, ◌*◌, ◌-◌, ◌%◌, ℕ, Bool, true, false, List, [], ◌∷◌, nat_le, nat_lt, not, slice_index_or, if◌then◌else◌}

-- the number that the two digits at a place are
abbrev pub two_at : List ℕ → ℕ → ℕ
two_at text at = (slice_index_or text at 48 - 48) * 10 + (slice_index_or text (at + 1) 48 - 48)

-- a year with a 29 February
abbrev pub is_leap : ℕ → Bool
is_leap year = (year % 4 == 0) && (not (year % 100 == 0) || (year % 400 == 0))

abbrev pub days_in : Bool → ℕ → ℕ
days_in leap month =
    if month == 2 then (if leap then 29 else 28)
    else if (month == 4) || ((month == 6) || ((month == 9) || (month == 11))) then 30
    else 31

-- the day that stands in a text of the shape of a time is one that there is
abbrev pub is_day : List ℕ → Bool
is_day text =
    nat_le 1 (two_at text 5) && (nat_le (two_at text 5) 12
    && (nat_le 1 (two_at text 8) && nat_le (two_at text 8) (days_in (is_leap (two_at text 0 * 100 + two_at text 2)) (two_at text 5))))

-- and the moment one of a day, and no leap second
abbrev pub is_moment : List ℕ → Bool
is_moment text = nat_le (two_at text 11) 23 && (nat_le (two_at text 14) 59 && nat_le (two_at text 17) 59)

abbrev pub is_date : List ℕ → Bool
is_date text = is_day text && is_moment text

-- octet by octet, and a beginning before what goes on
abbrev pub is_before : List ℕ → List ℕ → Bool
is_before [] [] = false
is_before [] (b ∷ bs) = true
is_before (a ∷ rest) [] = false
is_before (a ∷ rest) (b ∷ bs) = nat_lt a b || ((a == b) && is_before rest bs)

-- The names of control files and data files.
use Rattle.std.specs.Prelude.{ℕ, Bool, false, List, ◌==◌, ◌||◌, ◌&&◌, nat_lt, length, drop, ◌++◌, ◌+◌, ◌*◌, ◌-◌, replicate, if◌then◌else◌, slice_index, slice_range, IsTrue}
use Rattle.std.specs.List.{list_all}
use Rattle.lpd_values.specs.Kinds.{is_digit, is_letter, is_word_octet}
use Rattle.lpd_values.specs.declared.limits.TheConstants.{MIN_NAME, MAX_NAME}

-- how a name begins: c or d, then f, then a letter
abbrev pub has_head : ℕ → List ℕ → Bool
has_head kind s = slice_index s 0 == kind && slice_index s 1 == 102 && is_letter (slice_index s 2)

-- a name of this kind: that, three digits, then word octets; of a length from MIN_NAME to MAX_NAME
abbrev pub is_name : ℕ → List ℕ → Bool
is_name kind s =
    if nat_lt (length s) MIN_NAME || nat_lt MAX_NAME (length s) then false
    else has_head kind s && list_all is_digit (slice_range s 3 6)
    && list_all is_word_octet (drop 6 s)

-- 99 is c
abbrev pub is_control_name : List ℕ → Bool
is_control_name = is_name 99

-- 100 is d
abbrev pub is_data_name : List ℕ → Bool
is_data_name = is_name 100

abbrev pub is_file_name : List ℕ → Bool
is_file_name s = is_control_name s || is_data_name s

abbrev pub IsFileName : List ℕ → Type 0
IsFileName s = IsTrue (is_file_name s)

-- the job's number: the three digits
abbrev pub number_of : List ℕ → ℕ
number_of s = 100 * (slice_index s 3 - 48) + 10 * (slice_index s 4 - 48) + (slice_index s 5 - 48)

-- the octets of a name with zeros behind them, MAX_NAME in all
abbrev pub padded : List ℕ → List ℕ
padded s = s ++ replicate (MAX_NAME - length s) 0

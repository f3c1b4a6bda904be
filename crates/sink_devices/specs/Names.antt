-- What the names in a folder say of the files of jobs.
use Rattle.std.specs.Prelude.{◌+◌, ◌-◌, ◌^◌, ◌&&◌, ◌==◌, ℕ, List, Option, Some, None, if◌then◌else◌, codes, drop, length, max, min, nat_eq, nat_lt}
use Rattle.std.specs.Char.{is_ascii_digit}
use Rattle.std.specs.List.{fold, slice_split, starts_with, take_while}
use Rattle.std.specs.Str.Parse.{digits_value}
use Rattle.sink_devices.specs.declared.folder_names.FolderNames.{FolderNames}

-- the number that decimal digits write, if there is one and it has no more than 64 bits
abbrev pub value_written : List ℕ → Option ℕ
value_written digits =
    if nat_lt 0 (length digits) && nat_lt (digits_value 10 digits) (2 ^ 64) then Some (digits_value 10 digits) else None

-- the number of a job's file of this name, or of one that belongs to it: `job-`, digits, and what doesn't begin with one
abbrev pub number_in : List ℕ → Option ℕ
number_in name =
    if starts_with nat_eq name (codes "job-") then value_written (take_while is_ascii_digit (drop 4 name)) else None

-- one more, as far as 64 bits count
abbrev pub one_more : ℕ → ℕ
one_more number = min (2 ^ 64 - 1) (number + 1)

-- the number of the next file, where there is one of this number
abbrev pub next_behind : Option ℕ → ℕ → ℕ
next_behind None next = next
next_behind (Some number) next = max next (one_more number)

-- what names say with this one more
abbrev pub with_name : FolderNames → List ℕ → FolderNames
with_name names name = record {
  next = next_behind (number_in name) names.next;
  left = if starts_with nat_eq name (codes ".job-") then one_more names.left else names.left;
}

-- what they say with those more that end at octets 00
abbrev pub with_names : FolderNames → List ℕ → FolderNames
with_names names octets = fold with_name names (slice_split (λ octet. octet == 0) octets)

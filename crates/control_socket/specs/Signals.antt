-- What the text of /proc/self/status tells of a signal.
use Rattle.std.specs.Prelude.{◌==◌, ◌-◌, ◌&&◌, ℕ, List, Bool, Some, None, false, true, if◌then◌else◌, length, nat_lt, nat_eq, drop, find, option_and_then}
use Rattle.std.specs.declared.option.Option.{Option}
use Rattle.control_socket.specs.declared.signals.Pending.{Pending}
use Rattle.control_socket.specs.declared.signals.Pending.TheVariants.{Both, Neither, One}
use Rattle.std.specs.Option.{option_map}
use Rattle.std.specs.List.{list_all, slice_split, starts_with}
use Rattle.std.specs.Char.{digit_value}
use Rattle.std.specs.Int.{bit_at}
use Rattle.std.specs.Str.Parse.{digits_value}

-- the number that 16 hexadecimal digits write
abbrev pub mask_written : List ℕ → Option ℕ
mask_written digits =
    if (length digits == 16) && list_all (λ digit. nat_lt (digit_value digit) 16) digits
    then Some (digits_value 16 digits) else None

-- the first line that begins with this name
abbrev pub first_line_named : List ℕ → List ℕ → Option (List ℕ)
first_line_named text name = find (λ line. starts_with nat_eq line name) (slice_split (λ octet. octet == 10) text)

-- the lowest bit is that of signal 1
abbrev pub is_in_mask : ℕ → ℕ → Bool
is_in_mask mask signal = bit_at mask (signal - 1) == 1

-- whether the mask behind the name has the signal's bit
abbrev pub is_in_line : List ℕ → List ℕ → ℕ → Option Bool
is_in_line text name signal =
    option_and_then
    (λ line. option_map (λ mask. is_in_mask mask signal) (mask_written (drop (length name) line)))
    (first_line_named text name)

-- how many of two signals are pending
abbrev pub pending_of : Bool → Bool → Pending
pending_of false false = Neither
pending_of true true = Both
pending_of interrupt terminate = One

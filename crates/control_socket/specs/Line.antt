-- A line by all the octets that came of it, however they were cut.
use Rattle.std.specs.Prelude.{◌==◌, ℕ, List, Bool, if◌then◌else◌, length, nat_lt}
use Rattle.std.specs.List.{before_first, list_any}
use Rattle.control_socket.specs.declared.line.LineProgress.{LineProgress}
use Rattle.control_socket.specs.declared.line.LineProgress.TheVariants.{More, Whole, TooLong}

abbrev pub is_line_feed : ℕ → Bool
is_line_feed octet = octet == 10

-- what stands before the first line feed, or all where there is none
abbrev pub octets_before_line_feed : List ℕ → List ℕ
octets_before_line_feed octets = before_first is_line_feed octets

-- how far a line of `most` octets at most has come
abbrev pub progress_of : ℕ → List ℕ → LineProgress
progress_of most octets =
    if nat_lt most (length (octets_before_line_feed octets)) then TooLong
    else (if list_any is_line_feed octets then Whole else More)

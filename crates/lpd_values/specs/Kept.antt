-- What a control file's fields keep.
use Rattle.std.specs.Prelude.{ℕ, Bool, List, ◌==◌, ◌&&◌, nat_le, length}
use Rattle.std.specs.List.{list_all, list_any}
use Rattle.std.specs.Str.{bytes_eq}
use Rattle.lpd_values.specs.Pieces.{is_kept}
use Rattle.lpd_values.specs.Name.{is_data_name}
use Rattle.lpd_values.specs.declared.limits.TheConstants.{MAX_OPERAND, MAX_PRINTS}

abbrev pub is_line_feed : ℕ → Bool
is_line_feed b = b == 10

-- the lengths that a host or a user may have, in octets
abbrev pub is_operand_len : ℕ → Bool
is_operand_len n = nat_le 1 n && nat_le n MAX_OPERAND

-- a host or a user: 1 to MAX_OPERAND octets without LF
abbrev pub is_operand : List ℕ → Bool
is_operand s = is_operand_len (length s) && list_all (is_kept is_line_feed) s

-- whether a name stands in a list
abbrev pub is_among : List ℕ → List (List ℕ) → Bool
is_among name names = list_any (λ other. bytes_eq other name) names

-- 1 to MAX_PRINTS names of data files; a name may stand again
abbrev pub is_print_list : List (List ℕ) → Bool
is_print_list names =
    nat_le 1 (length names) && nat_le (length names) MAX_PRINTS && list_all is_data_name names

-- Counts as they are written: decimal digits, and the number that they are.
use Rattle.std.specs.Prelude.{ℕ, Bool, List, ◌&&◌, nat_le, length, fold, ◌+◌, ◌*◌, ◌-◌}
use Rattle.std.specs.List.{list_all}
use Rattle.lpd_values.specs.Kinds.{is_digit}
use Rattle.lpd_values.specs.declared.limits.TheConstants.{MAX_COUNT_DIGITS}

-- 1 to MAX_COUNT_DIGITS decimal digits
abbrev pub is_count : List ℕ → Bool
is_count digits =
    nat_le 1 (length digits) && nat_le (length digits) MAX_COUNT_DIGITS && list_all is_digit digits

abbrev pub count_of : List ℕ → ℕ
count_of digits = fold (λ n d. 10 * n + (d - 48)) 0 digits

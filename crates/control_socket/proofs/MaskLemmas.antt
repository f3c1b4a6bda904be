-- The number that hexadecimal digits write, digit by digit.
use Rattle.std.proofs.Common.{◌≡◌, ℕ, ◌+◌, ◌*◌, ◌&&◌, Bool, true, false, List, [], ◌∷◌, Some, None, length, drop, add-one, drop-cons, get_or, ◌<◌, ◌≤◌, ◌^◌, arith, cond, refl, nat_lt}
use Rattle.std.proofs.lemmas.Grind.{common_steps}
use Rattle.std.proofs.lemmas.List.{drop_all}
use Rattle.std.proofs.lemmas.Nat.{pow-add}
use Rattle.std.proofs.Math.Nat.{pow-le-pow_right}
use Rattle.std.specs.declared.option.Option.{Option}
use Rattle.std.specs.List.{list_all}
use Rattle.std.specs.Char.{digit_value}
use Rattle.std.specs.Str.Parse.{digits_value_after}
use Rattle.control_socket.specs.Signals.{mask_written}

-- the number that digits write behind those of `mask`
abbrev pub read_from : ℕ → List ℕ → Option ℕ
read_from mask [] = Some mask
read_from mask (digit ∷ digits) = cond (nat_lt (digit_value digit) 16) (read_from (mask * 16 + digit_value digit) digits) None

pub read_from-is : (mask : ℕ) (digits : List ℕ) → read_from mask digits ≡ cond (list_all (λ digit. nat_lt (digit_value digit) 16) digits) (Some (digits_value_after 16 mask digits)) None
read_from-is mask [] = refl
read_from-is mask (digit ∷ digits) = by (nat_lt (digit_value digit) 16) (read_from-is (mask * 16 + digit_value digit) digits)
  where
    by : (b : Bool) → read_from (mask * 16 + digit_value digit) digits ≡ cond (list_all (λ digit. nat_lt (digit_value digit) 16) digits) (Some (digits_value_after 16 (mask * 16 + digit_value digit) digits)) None → cond b (read_from (mask * 16 + digit_value digit) digits) None ≡ cond (b && list_all (λ digit. nat_lt (digit_value digit) 16) digits) (Some (digits_value_after 16 (mask * 16 + digit_value digit) digits)) None
    by true rest = rest
    by false rest = refl

-- the next digit
pub read_from-next : (mask at : ℕ) (digits : List ℕ) → at < length digits
    → read_from mask (drop at digits) ≡ cond (nat_lt (digit_value (get_or digits at 0)) 16) (read_from (mask * 16 + digit_value (get_or digits at 0)) (drop (at + 1) digits)) None
read_from-next mask at digits within = rw (add-one, drop-cons digits at 0) refl

pow-next : (at : ℕ) → 16 ^ (at + 1) ≡ 16 * 16 ^ at
pow-next at = omega (arith, pow-add 16 at 1)

-- a mask of fewer digits than 16 has room for one more
pub next_fits : (mask digit at : ℕ) → mask < 16 ^ at → digit < 16 → mask * 16 + digit < 16 ^ (at + 1)
next_fits mask digit at below is = let next = pow-next at in omega (arith, next, below, is)

-- a mask of fewer digits than 16, with one more, is below 2 to the power 64
pub next_fits_word : (mask digit at : ℕ) → mask < 16 ^ at → digit < 16 → at < 16 → mask * 16 + digit < 2 ^ 64
next_fits_word mask digit at below is within =
    let next = next_fits mask digit at below is in
    let most : 16 ^ (at + 1) ≤ 16 ^ 16 = pow-le-pow_right {n = 16} (omega arith) {i = at + 1} {j = 16} (omega (arith, within)) in
    omega (arith, next, most)

-- what all 16 digits write
pub read_whole : (mask at : ℕ) (digits : List ℕ) → length digits ≡ 16 → length digits ≤ at
    → read_from mask (drop at digits) ≡ read_from 0 digits → Some mask ≡ mask_written digits
read_whole mask at digits sixteen past same =
    let none_left = drop_all at digits past in
    let all = read_from-is 0 digits in
    grind (arith, common_steps, none_left, all, sixteen, same)

-- what doesn't write a number digit by digit is no mask
pub read_none : (digits : List ℕ) → None ≡ read_from 0 digits → None ≡ mask_written digits
read_none digits is =
    let all = read_from-is 0 digits in
    grind (arith, common_steps, all, is)

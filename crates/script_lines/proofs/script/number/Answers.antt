use Rattle.std.proofs.Common.{◌<◌, ◌≤◌, ◌^◌, ℕ, arith, lit<}
use Rattle.std.proofs.Math.Nat.{pow-le-pow_right}
use Rattle.script_lines.proofs.script.number.Goals as goal

-- with fewer than 9 digits, one more fits
bound : (n i : ℕ) → n < 10 ^ i → i < 9 → n < 10 ^ 8
bound n i h k =
    let p : 10 ^ i ≤ 10 ^ 8 = pow-le-pow_right {n = 10} (lit< tt) {i = i} {j = 8} (omega arith) in
    omega arith

pub overflow_mul-number : goal.overflow_mul-number
overflow_mul-number c =
    let b = bound c.loop-digit.number c.loop-digit.digit-index c.loop-digit.invariant.bound (omega arith) in
    omega arith

pub overflow_add-number : goal.overflow_add-number
overflow_add-number c =
    let b = bound c.loop-digit.number c.loop-digit.digit-index c.loop-digit.invariant.bound (omega arith) in
    omega (arith, c.type_inv.digits c.loop-digit.digit-index)

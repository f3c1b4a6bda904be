use Rattle.std.proofs.Common.{◌<◌, ◌≤◌, ◌^◌, ℕ, arith, lit<}
use Rattle.std.proofs.Math.Nat.{pow-le-pow_right}
use Rattle.lpd_commands.proofs.sub.read_count.Goals as goal

-- with fewer than 19 digits, one more fits
bound : (n i : ℕ) → n < 10 ^ i → i < 19 → n < 10 ^ 18
bound n i h k = let p : 10 ^ i ≤ 10 ^ 18 = pow-le-pow_right {n = 10} (lit< tt) {i = i} {j = 18} (omega arith) in omega arith

pub overflow_mul-count : goal.overflow_mul-count
overflow_mul-count c = let b = bound c.loop-digit.count c.loop-digit.digit-index c.loop-digit.invariant.bound (omega arith) in omega arith

pub overflow_add-count : goal.overflow_add-count
overflow_add-count c =
    let b = bound c.loop-digit.count c.loop-digit.digit-index c.loop-digit.invariant.bound (omega arith) in
    omega (arith, c.type_inv.digits c.loop-digit.digit-index)

use Rattle.std.proofs.Common.{arith, ◌<◌, ℕ}
use Rattle.control_socket.proofs.MaskLemmas.{next_fits_word, read_whole}
use Rattle.control_socket.proofs.signals.hexadecimal.Goals as goal

-- src/signals.rt:35:16
pub overflow_mul-mask : goal.overflow_mul-mask
overflow_mul-mask c =
    let below = c.loop-digit.invariant.1 in
    let within : c.loop-digit.digit-index < 16 = omega arith in
    let fits = next_fits_word c.loop-digit.mask 0 c.loop-digit.digit-index below (omega arith) within in
    omega (arith, fits)

-- src/signals.rt:35:16
pub overflow_add-mask : goal.overflow_add-mask
overflow_add-mask c =
    let below = c.loop-digit.invariant.1 in
    let within : c.loop-digit.digit-index < 16 = omega arith in
    let digit : ℕ = c.from-in-loop-digit.result in
    let small : digit < 16 = omega (arith, c.in_ok-value.ensures.value.0, c.in_ok-value.ensures.value.1, c.from-in-loop-digit.ensures) in
    let fits = next_fits_word c.loop-digit.mask digit c.loop-digit.digit-index below small within in
    omega (arith, fits)

-- src/signals.rt:26:1
pub returns : goal.returns
returns c = read_whole c.loop-digit.mask c.loop-digit.digit-index c.args.digits.now c.if-digits-ne-DIGITS.false c.loop-digit-test.false c.loop-digit.invariant.0

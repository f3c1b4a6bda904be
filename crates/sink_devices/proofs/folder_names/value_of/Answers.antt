use Rattle.std.proofs.Common.{◌≡◌, ◌∙◌, arith, get_or, sym}
use Rattle.std.specs.Char.{digit_value}
use Rattle.std.proofs.lemmas.Bool.Decides.{nat_tests}
use Rattle.std.proofs.lemmas.Int.Digits.{digits_value_more}
use Rattle.sink_devices.proofs.DigitLemmas.{too_great}
use Rattle.sink_devices.proofs.folder_names.value_of.Goals as goal

pub returns-in_err-checked_mul : goal.returns-in_err-checked_mul
returns-in_err-checked_mul c =
    c.from_residual.ensures ∙ sym (too_great _ _ c.loop-digit-test.true (omega (arith, c.in_err-checked_mul.ensures, c.loop-digit.invariant.0)))

pub returns-in_err-value : goal.returns-in_err-value
returns-in_err-value c =
    let digit : digit_value (get_or c.args.digits.now c.loop-digit.digit-index 0) ≡ c.from.result = grind (arith, nat_tests) in
    c.from_residual-in_err-value.ensures ∙ sym (too_great _ _ c.loop-digit-test.true (omega (arith, digit, c.in_err-value.ensures, c.in_ok-checked_mul.ensures.1, c.loop-digit.invariant.0)))

pub loop-digit-preserved : goal.loop-digit-preserved
loop-digit-preserved c =
    let digit : digit_value (get_or c.args.digits.now c.loop-digit.digit-index 0) ≡ c.from.result = grind (arith, nat_tests) in (
      omega (arith, digit, digits_value_more 10 c.args.digits.now _ c.loop-digit-test.true, c.in_ok-value.ensures.1, c.in_ok-checked_mul.ensures.1, c.loop-digit.invariant.0),
      omega (arith, c.in_ok-value.ensures.0, c.in_ok-value.ensures.1),
    )

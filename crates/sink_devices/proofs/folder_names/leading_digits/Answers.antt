use Rattle.sink_devices.proofs.DigitLemmas.{leading_are_digits}
use Rattle.sink_devices.proofs.folder_names.leading_digits.Goals as goal

pub returns-clause-digits : goal.returns-clause-digits
returns-clause-digits c = rw c.digit_count.ensures.value (leading_are_digits c.args.octets.now)

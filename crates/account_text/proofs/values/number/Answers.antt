use Rattle.std.proofs.Common.{◌^◌, arith}
use Rattle.account_text.proofs.WordLaws.{spelt, unspelt}
use Rattle.account_text.proofs.values.number.Goals as goal

pub returns : goal.returns
returns c = spelt (2 ^ 64) c.in_ok-number.number c.args.word.now (omega arith) (omega arith) c.in_ok-number.ensures

pub returns-in_err-number : goal.returns-in_err-number
returns-in_err-number c = rw c.from_residual.ensures (unspelt (2 ^ 64) c.args.word.now c.in_err-number.ensures)

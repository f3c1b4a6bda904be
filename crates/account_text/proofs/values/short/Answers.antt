use Rattle.std.proofs.Common.{◌^◌, lit≤}
use Rattle.account_text.proofs.WordLaws.{below_none}
use Rattle.account_text.proofs.values.short.Goals as goal

pub returns-in_err-number : goal.returns-in_err-number
returns-in_err-number c = rw c.from_residual.ensures (below_none (2 ^ 32) c.args.word.now c.in_err-number.ensures (lit≤ tt))

use Rattle.std.proofs.Common.{arith, lit≤}
use Rattle.account_text.proofs.WordLaws.{above_none, below_none, below_some}
use Rattle.account_text.proofs.values.job_number.Goals as goal

pub returns-then-number-lt1000 : goal.returns-then-number-lt1000
returns-then-number-lt1000 c = (below_some 1000 c.in_ok-number.number c.args.word.now c.in_ok-number.ensures (omega arith), omega arith)

pub returns-else-number-lt1000 : goal.returns-else-number-lt1000
returns-else-number-lt1000 c = above_none 1000 c.in_ok-number.number c.args.word.now c.in_ok-number.ensures (omega arith)

pub returns-in_err-number : goal.returns-in_err-number
returns-in_err-number c = rw c.from_residual.ensures (below_none 1000 c.args.word.now c.in_err-number.ensures (lit≤ tt))

use Rattle.std.proofs.Common.{arith}
use Rattle.spool_core.specs.Removal.{GoesIn}
use Rattle.spool_core.proofs.Removable.{one_more}
use Rattle.spool_core.proofs.removing.first_left.Goals.{else-at-gt0-via-then-at-gt0+else-number-numbers, else-at-gt0-via-else-at-gt0}
use Rattle.spool_core.proofs.removing.first_left.Goals as goal

pub loop-at-preserved : goal.loop-at-preserved
loop-at-preserved c =
    let numbers = c.args.numbers.now in
    let at = c.loop-at.at in
    one_more (GoesIn c.args.book.now c.args.queue) numbers at c.loop-at.invariant
    (λ pos. elim c.else-at-gt0.branch [
      | else-at-gt0-via-then-at-gt0+else-number-numbers w ↦ (let up = w.if-number-numbers in omega arith)
      | else-at-gt0-via-else-at-gt0 w ↦ absurd (let none = w.if-at-gt0 in omega arith)
    ])
    c.if-not-goes.ensures

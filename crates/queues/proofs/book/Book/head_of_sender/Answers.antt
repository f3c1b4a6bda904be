use Rattle.std.proofs.Common.{◌∙◌, below_more, sym, ap, arith}
use Rattle.queues.specs.Tests.{is_from}
use Rattle.queues.proofs.Lists.{known_at}
use Rattle.queues.proofs.book.Book.head_of_sender.Goals as goal

pub loop-i-preserved : goal.loop-i-preserved
loop-i-preserved c =
    let n = c.len-i-end.ensures in
    let lt = c.loop-i-test.true in
    below_more _ _ c.loop-i.invariant
    (ap (is_from c.args.sender c.args.queue) (known_at c.args.self.now c.loop-i.i c.job.result.now (omega arith) c.job.ensures) ∙ (sym c.is_from.ensures ∙ c.if-is_from.false))

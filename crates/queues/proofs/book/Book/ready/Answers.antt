use Rattle.std.proofs.Common.{sym, ◌∙◌, arith}
use Rattle.held_jobs.specs.Turns.{facts_in, ready_in}
use Rattle.queues.proofs.Firsts.{first_none, first_some}
use Rattle.queues.proofs.book.Book.ready.Goals as goal

pub returns-then-is_ready_in : goal.returns-then-is_ready_in
returns-then-is_ready_in c =
    let b = c.args.self.now in
    let n = c.len-i-end.ensures in
    let lt = c.loop-i-test.true in
    first_some (ready_in (facts_in b.jobs) c.args.queue) b.jobs c.loop-i.i (omega (arith, n, lt)) (sym c.is_ready_in.ensures ∙ c.if-is_ready_in.true) c.loop-i.invariant

pub returns : goal.returns
returns c =
    let b = c.args.self.now in
    let end = c.loop-i-test.false in
    first_none (ready_in (facts_in b.jobs) c.args.queue) b.jobs c.len-i-end.result c.len-i-end.ensures (λ k less. c.loop-i.invariant k (omega (arith, end, less)))

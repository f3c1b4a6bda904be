use Rattle.std.proofs.Common.{sym, ◌∙◌, arith}
use Rattle.held_jobs.specs.Turns.{goes_on}
use Rattle.queues.proofs.Firsts.{first_none, first_some}
use Rattle.queues.proofs.book.Book.begun.Goals as goal

pub returns-then-is_going : goal.returns-then-is_going
returns-then-is_going c =
    let b = c.args.self.now in
    let n = c.len-i-end.ensures in
    let lt = c.loop-i-test.true in
    first_some (goes_on c.args.number) b.jobs c.loop-i.i (omega (arith, n, lt)) (sym c.is_going.ensures ∙ c.if-is_going.true) c.loop-i.invariant

pub returns : goal.returns
returns c =
    let b = c.args.self.now in
    let end = c.loop-i-test.false in
    first_none (goes_on c.args.number) b.jobs c.len-i-end.result c.len-i-end.ensures (λ k less. c.loop-i.invariant k (omega (arith, end, less)))

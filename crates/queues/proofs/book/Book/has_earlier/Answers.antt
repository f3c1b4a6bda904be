use Rattle.std.proofs.Common.{sym, ◌∙◌, arith}
use Rattle.held_jobs.specs.Books.{job_at}
use Rattle.held_jobs.specs.Turns.{is_preceded_by}
use Rattle.queues.proofs.Firsts.{none_any, some_any}
use Rattle.queues.proofs.book.Book.has_earlier.Goals as goal

pub returns-then-is_before : goal.returns-then-is_before
returns-then-is_before c =
    let b = c.args.self.now in
    let n = c.len-other-end.ensures in
    let lt = c.loop-other-test.true in
    sym (some_any (is_preceded_by (job_at b c.args.i).facts) b.jobs c.loop-other.other (omega (arith, n, lt)) (sym c.is_before.ensures ∙ c.if-is_before.true))

pub returns : goal.returns
returns c =
    let b = c.args.self.now in
    let end = c.loop-other-test.false in
    sym (none_any (is_preceded_by (job_at b c.args.i).facts) b.jobs c.len-other-end.result c.len-other-end.ensures (λ k less. c.loop-other.invariant k (omega (arith, end, less))))

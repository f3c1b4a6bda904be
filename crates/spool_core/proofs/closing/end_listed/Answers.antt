use Rattle.std.proofs.Common.{◌≡◌, ◌-◌, true, false, ap, sym, ◌∙◌}
use Rattle.held_jobs.specs.Jobs.{Facts}
use Rattle.held_jobs.specs.Books.{job_at}
use Rattle.spool_calls.specs.Stocks.{listed, stock}
use Rattle.step_lemmas.proofs.Cores.EndingMany.{ending_start, ending_can, ending_hit, ending_miss, ending_done}
use Rattle.spool_core.proofs.closing.end_listed.Goals as goal

pub loop-i-init : goal.loop-i-init
loop-i-init c = ending_start (listed c.args.numbers.now) (stock c.args.book.now c.args.pool.now c.args.table.now) c.len-i.result c.requires c.len-i.ensures

pub job-requires : goal.job-requires
job-requires c =
    let s = stock c.args.book.now c.args.pool.now c.args.table.now in
    let t = stock c.loop-i.book c.loop-i.pool c.loop-i.table in
    (ending_can (listed c.args.numbers.now) s t c.loop-i.i c.loop-i.invariant c.loop-i-test.true).here

pub end_job-requires : goal.end_job-requires
end_job-requires c =
    let s = stock c.args.book.now c.args.pool.now c.args.table.now in
    let t = stock c.loop-i.book c.loop-i.pool c.loop-i.table in
    ending_can (listed c.args.numbers.now) s t c.loop-i.i c.loop-i.invariant c.loop-i-test.true

pub loop-i-preserved-then-is_listed : goal.loop-i-preserved-then-is_listed
loop-i-preserved-then-is_listed c =
    let s = stock c.args.book.now c.args.pool.now c.args.table.now in
    let t = stock c.loop-i.book c.loop-i.pool c.loop-i.table in
    let u = stock c.end_job.new.book c.end_job.new.pool c.end_job.new.table in
    let n = c.number.ensures ∙ ap (λ (g : Facts). g.number) c.job.ensures in
    let hit : listed c.args.numbers.now (job_at c.loop-i.book (c.loop-i.i - 1)).facts.number ≡ true = ap (listed c.args.numbers.now) (sym n) ∙ sym c.if-is_listed.ensures in
    ending_hit (listed c.args.numbers.now) s t c.loop-i.i c.loop-i.invariant c.loop-i-test.true u hit c.end_job.ensures

pub loop-i-preserved : goal.loop-i-preserved
loop-i-preserved c =
    let s = stock c.args.book.now c.args.pool.now c.args.table.now in
    let t = stock c.loop-i.book c.loop-i.pool c.loop-i.table in
    let n = c.number.ensures ∙ ap (λ (g : Facts). g.number) c.job.ensures in
    let miss : listed c.args.numbers.now (job_at c.loop-i.book (c.loop-i.i - 1)).facts.number ≡ false = ap (listed c.args.numbers.now) (sym n) ∙ sym c.if-is_listed.ensures in
    ending_miss (listed c.args.numbers.now) s t c.loop-i.i c.loop-i.invariant c.loop-i-test.true miss

pub returns : goal.returns
returns c =
    let s = stock c.args.book.now c.args.pool.now c.args.table.now in
    let t = stock c.loop-i.book c.loop-i.pool c.loop-i.table in
    ending_done (listed c.args.numbers.now) s t c.loop-i.i c.loop-i.invariant c.loop-i-test.false

use Rattle.std.proofs.Common.{refl}
use Rattle.spool_calls.specs.Stocks.{all_end, stock}
use Rattle.step_lemmas.proofs.Cores.EndingMany.{ending_start, ending_can, ending_hit, ending_done}
use Rattle.spool_core.proofs.closing.end_all.Goals as goal

pub loop-i-init : goal.loop-i-init
loop-i-init c = ending_start all_end (stock c.args.book.now c.args.pool.now c.args.table.now) c.len-i.result c.requires c.len-i.ensures

pub end_job-requires : goal.end_job-requires
end_job-requires c =
    let s = stock c.args.book.now c.args.pool.now c.args.table.now in
    let t = stock c.loop-i.book c.loop-i.pool c.loop-i.table in
    ending_can all_end s t c.loop-i.i c.loop-i.invariant c.loop-i-test.true

pub loop-i-preserved : goal.loop-i-preserved
loop-i-preserved c =
    let s = stock c.args.book.now c.args.pool.now c.args.table.now in
    let t = stock c.loop-i.book c.loop-i.pool c.loop-i.table in
    let u = stock c.end_job.new.book c.end_job.new.pool c.end_job.new.table in
    ending_hit all_end s t c.loop-i.i c.loop-i.invariant c.loop-i-test.true u refl c.end_job.ensures

pub returns : goal.returns
returns c =
    let s = stock c.args.book.now c.args.pool.now c.args.table.now in
    let t = stock c.loop-i.book c.loop-i.pool c.loop-i.table in
    ending_done all_end s t c.loop-i.i c.loop-i.invariant c.loop-i-test.false

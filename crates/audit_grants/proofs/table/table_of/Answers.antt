use Rattle.std.proofs.Common.{◌≡◌, ◌<◌, ◌≤◌, ◌+◌, ◌∙◌, arith}
use Rattle.audit_grants.specs.Lent.{HasRow}
use Rattle.spool_history.specs.Now.{row_of}
use Rattle.history_reader.specs.Seen.{job_seen}
use Rattle.audit_grants.proofs.Held.{below_more, rows_more}
use Rattle.audit_grants.proofs.table.table_of.Goals as goal

pub loop-job-preserved : goal.loop-job-preserved
loop-job-preserved c =
    let config = c.args.config.now in
    let x = c.job-item.result in
    let was = c.loop-job.table in
    let is = c.add_row.new.table in
    let row : HasRow was (row_of config (job_seen x)) is = c.in_ok-add_row.ensures c.if-not-branch.false in
    let number : c.from-number.result ≡ x.number = c.from-number.ensures in
    let le : c.loop-job.above ≤ c.from-number.result + 1 = (let f = c.if-number-above.false in omega arith) in
    let lt : x.number < c.from-number.result + 1 = omega (arith, number) in
    record {
      rows = rows_more config c.args.jobs.now c.loop-job.job-index x was.rows is.rows c.loop-job-test.true c.job-item.is c.loop-job.invariant.rows row.rows;
      capacity = row.capacity ∙ c.loop-job.invariant.capacity;
      room = row.room ∙ c.loop-job.invariant.room;
      below = below_more was.rows is.rows (row_of config (job_seen x)) c.loop-job.above (c.from-number.result + 1) c.loop-job.invariant.below le lt row.rows;
    }

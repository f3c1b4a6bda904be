use Rattle.std.proofs.Common.{◌∙◌, ℕ, Bool, cond, ap, arith}
use Rattle.lpd_values.specs.Choice.{is_listed}
use Rattle.told_jobs.proofs.Rows.{counted_more}
use Rattle.told_jobs.proofs.texts.listed.Goals as goal
use Rattle.told_jobs.proofs.texts.listed.Goals.{then-is_listed, else-is_listed}

abbrev one_if : Bool → ℕ
one_if b = cond b 1 0

pub loop-i-preserved : goal.loop-i-preserved
loop-i-preserved g c =
    let n = c.len-i-end.ensures in
    let lt = c.loop-i-test.true in
    let m = counted_more (λ j. is_listed c.args.queue (g.J.ToldJobs.told j)) (g.J.ToldJobs.jobs c.args.jobs.now) c.loop-i.i c.job.ensures.0 c.job.ensures.1 in
    let s = ap one_if (c.is_listed.ensures ∙ ap (is_listed c.args.queue) c.job.ensures.2) in
    let before = c.loop-i.invariant.0 in
    let within = c.loop-i.invariant.1 in
    elim c.if-is_listed.branch [
      | then-is_listed w ↦
          let t = ap one_if w.if-is_listed.true in
          let is = w.count-is in
          (omega (arith, m, s, t, is, before), omega (arith, is, within))
      | else-is_listed w ↦
          let t = ap one_if w.if-is_listed.false in
          let is = w.count-is in
          (omega (arith, m, s, t, is, before), omega (arith, is, within))
    ]

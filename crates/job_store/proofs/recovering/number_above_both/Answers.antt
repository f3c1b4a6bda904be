use Rattle.std.proofs.Common.{◌≤◌, arith}
use Rattle.std.proofs.lemmas.Option.{IfSome_then}
use Rattle.job_store.proofs.recovering.number_above_both.Goals as goal

pub returns-clause-jobs : goal.returns-clause-jobs
returns-clause-jobs c =
    IfSome_then c.number_above-2.result c.number_above-2.ensures.first (λ next first n le.
    let above : c.in_ok-next.next ≤ n = omega (arith, first, le) in
    c.in_ok-next.ensures.above n above)

use Rattle.std.proofs.Common.{refl}
use Rattle.worked_histories.proofs.rows.two_jobs.Goals as goal

pub returns : goal.returns
returns c = record { first = refl; then_rest = refl; then_second = refl; at_last = refl; free = refl }

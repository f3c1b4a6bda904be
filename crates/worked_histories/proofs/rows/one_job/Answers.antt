use Rattle.std.proofs.Common.{refl}
use Rattle.worked_histories.proofs.rows.one_job.Goals as goal

pub returns : goal.returns
returns c = record { free = refl; next = refl }

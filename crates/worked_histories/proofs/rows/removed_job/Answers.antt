use Rattle.std.proofs.Common.{refl}
use Rattle.worked_histories.proofs.rows.removed_job.Goals as goal

pub returns : goal.returns
returns c = record { busy = refl; has_ended = refl; gives_back = refl; not_done = refl; then_next = refl; said = refl }

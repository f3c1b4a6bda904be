use Rattle.std.proofs.Common.{refl}
use Rattle.worked_histories.proofs.rows.aborted_job.Goals as goal

pub returns : goal.returns
returns c = record { before = refl; lent = refl; after = refl; nothing = refl }

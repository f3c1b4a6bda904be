use Rattle.std.proofs.Common.{refl}
use Rattle.worked_histories.proofs.rows.closed_before.Goals as goal

pub returns : goal.returns
returns c = record { base = refl; over = refl; free = refl }

use Rattle.std.proofs.Common.{refl}
use Rattle.worked_histories.proofs.rows.closed_spool.Goals as goal

pub returns : goal.returns
returns c = record { over = refl; one_out = refl; dying = refl; all_back = refl }

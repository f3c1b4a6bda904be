use Rattle.std.proofs.Common.{refl}
use Rattle.worked_histories.proofs.rows.failed_page.Goals as goal

pub returns : goal.returns
returns c = record { stops = refl; free = refl; gone = refl; started = refl }

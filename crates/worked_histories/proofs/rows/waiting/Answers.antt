use Rattle.std.proofs.Common.{refl}
use Rattle.worked_histories.proofs.rows.waiting.Goals as goal

pub returns : goal.returns
returns c = record { same_sender = refl; other_sender = refl; open_file = refl; open_file_holds = refl }

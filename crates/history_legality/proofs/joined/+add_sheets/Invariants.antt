use Rattle.std.proofs.Common.{length}
use Rattle.history_legality.proofs.joined.+add_sheets.Given as goal

abbrev pub decreases-add_sheets : goal.decreases-add_sheets
decreases-add_sheets l = length l.places.now

use Rattle.std.proofs.Common.{vec_len}
use Rattle.test_kit_seats.proofs.kept.Kept.drop.Given as goal

abbrev pub decreases-loop-page : goal.decreases-loop-page
decreases-loop-page g l = vec_len l.pages

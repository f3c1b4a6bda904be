use Rattle.std.proofs.Common.{length}
use Rattle.history_legality.proofs.joined.+add_first_places.Given as goal

abbrev pub decreases-add_first_places : goal.decreases-add_first_places
decreases-add_first_places l = length l.jobs.now

use Rattle.std.proofs.Common.{length}
use Rattle.history_reader.proofs.received.+add_places.Given as goal

abbrev pub decreases-add_places : goal.decreases-add_places
decreases-add_places l = length l.names.now

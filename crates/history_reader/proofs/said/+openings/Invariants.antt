use Rattle.std.proofs.Common.{length}
use Rattle.history_reader.proofs.said.+openings.Given as goal

abbrev pub decreases-openings : goal.decreases-openings
decreases-openings l = length l.entries.now

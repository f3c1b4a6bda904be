use Rattle.std.proofs.Common.{length}
use Rattle.standings.proofs.turns.+kept_for.Given as goal

abbrev pub decreases-kept_for : goal.decreases-kept_for
decreases-kept_for l = length l.turns.now

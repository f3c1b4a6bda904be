use Rattle.std.proofs.Common.{length}
use Rattle.history_legality.proofs.joined.+handed.Given as goal

abbrev pub decreases-handed : goal.decreases-handed
decreases-handed l = length l.entries.now

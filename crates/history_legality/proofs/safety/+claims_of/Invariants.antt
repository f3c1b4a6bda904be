use Rattle.std.proofs.Common.{length}
use Rattle.history_legality.proofs.safety.+claims_of.Given as goal

abbrev pub decreases-claims_of : goal.decreases-claims_of
decreases-claims_of l = length l.jobs.now

use Rattle.std.proofs.Common.{length}
use Rattle.history_legality.proofs.joined.+has_held_before.Given as goal

abbrev pub decreases-has_held_before : goal.decreases-has_held_before
decreases-has_held_before l = length l.jobs.now

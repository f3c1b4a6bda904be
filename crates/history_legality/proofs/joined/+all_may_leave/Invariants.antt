use Rattle.std.proofs.Common.{length}
use Rattle.history_legality.proofs.joined.+all_may_leave.Given as goal

abbrev pub decreases-all_may_leave : goal.decreases-all_may_leave
decreases-all_may_leave l = length l.some.now

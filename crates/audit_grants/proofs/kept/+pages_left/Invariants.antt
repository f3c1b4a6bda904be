use Rattle.std.proofs.Common.{length}
use Rattle.audit_grants.proofs.kept.+pages_left.Given as goal

abbrev pub decreases-pages_left : goal.decreases-pages_left
decreases-pages_left l = length l.names.now

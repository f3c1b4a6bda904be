use Rattle.std.proofs.Common.{length}
use Rattle.audit_grants.proofs.safety.+beyond.Given as goal

abbrev pub decreases-beyond : goal.decreases-beyond
decreases-beyond l = length l.jobs.now

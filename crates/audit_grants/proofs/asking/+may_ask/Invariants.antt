use Rattle.std.proofs.Common.{length}
use Rattle.audit_grants.proofs.asking.+may_ask.Given as goal

abbrev pub decreases-may_ask : goal.decreases-may_ask
decreases-may_ask l = length l.jobs.now

use Rattle.std.proofs.Common.{length}
use Rattle.account_audit.proofs.giving.+less_stopped.Given as goal

abbrev pub decreases-less_stopped : goal.decreases-less_stopped
decreases-less_stopped l = length l.printers.now

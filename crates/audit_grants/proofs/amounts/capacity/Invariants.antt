use Rattle.std.proofs.Common.{map}
use Rattle.config_values.specs.Config.{Queue}
use Rattle.audit_grants.proofs.Made.{UpTo}
use Rattle.audit_grants.proofs.amounts.capacity.Given as goal

abbrev pub invariant-loop-i : goal.invariant-loop-i
invariant-loop-i l = UpTo l.all l.config.pages (map (λ (q : Queue). q.printers) l.config.queues) l.i

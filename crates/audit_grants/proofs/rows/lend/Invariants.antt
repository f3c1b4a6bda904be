use Rattle.std.proofs.Common.{◌≡◌}
use Rattle.audit_grants.specs.Lent.{lent}
use Rattle.audit_grants.proofs.rows.lend.Given as goal

abbrev pub invariant-loop-n : goal.invariant-loop-n
invariant-loop-n l = l.table ≡ lent l.fn.table l.row l.kind l.n

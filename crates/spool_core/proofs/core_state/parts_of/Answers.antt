use Rattle.std.proofs.Common.{subst}
use Rattle.claims.specs.Claims.{IsTable}
use Rattle.spool_core.proofs.core_state.parts_of.Goals as goal

pub returns-clause-is_table : goal.returns-clause-is_table
returns-clause-is_table c = subst IsTable c.table.view_is c.table.invariant.0

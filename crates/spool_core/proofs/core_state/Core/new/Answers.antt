use Rattle.spool_core.proofs.Beginning.{begins}
use Rattle.spool_core.proofs.core_state.Core.new.Goals as goal

pub returns-clause-left : goal.returns-clause-left
returns-clause-left c =
    let parts = c.in-Ok.parts in
    let e = c.in-Ok.ensures in
    begins c.args.config parts.pool parts.book parts.table parts.printers.items e.pool e.book e.table e.is_table e.printers

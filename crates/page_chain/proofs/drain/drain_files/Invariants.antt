use Rattle.page_chain.proofs.Draining.{Drains}
use Rattle.page_chain.proofs.drain.drain_files.Given as goal

abbrev pub invariant-files : goal.invariant-files
invariant-files l = Drains l.initial.nodes l.row l.kept l.initial.pool l.nodes l.pool l.i-counter

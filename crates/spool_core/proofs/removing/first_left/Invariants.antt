use Rattle.spool_core.specs.Removal.{GoesIn, RunsTo}
use Rattle.spool_core.proofs.removing.first_left.Given as goal

abbrev pub invariant-loop-at : goal.invariant-loop-at
invariant-loop-at l = RunsTo (GoesIn l.book l.queue) l.numbers l.at

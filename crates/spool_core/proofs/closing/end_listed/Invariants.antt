use Rattle.spool_calls.specs.Stocks.{listed, stock}
use Rattle.step_lemmas.proofs.Cores.EndingMany.{Ending}
use Rattle.spool_core.proofs.closing.end_listed.Given as goal

abbrev pub invariant-loop-i : goal.invariant-loop-i
invariant-loop-i l = Ending (listed l.numbers) (stock l.fn.book l.fn.pool l.fn.table) (stock l.book l.pool l.table) l.i

abbrev pub decreases-loop-i : goal.decreases-loop-i
decreases-loop-i l = l.i

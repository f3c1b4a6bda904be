use Rattle.std.proofs.Common.{◌≡◌, ◌++◌, drop}
use Rattle.counts.specs.Amounts.{amount}
use Rattle.standings.specs.Turns.{turns_from}
use Rattle.standings.proofs.turns.turns_of.Given as goal

abbrev pub invariant-loop-job : goal.invariant-loop-job
invariant-loop-job l = l.turns.items ++ turns_from l.claims.rows l.free (drop l.job-index l.order) ≡ turns_from l.claims.rows (amount l.claims.free 0) l.order

use Rattle.std.proofs.Common.{◌-◌}
use Rattle.parked_lines.proofs.LineLemmas.{Halves}
use Rattle.parked_lines.proofs.line.QueueLine.seek.Given as goal

abbrev pub invariant-halves : goal.invariant-halves
invariant-halves l = Halves l.self l.number l.low l.high

abbrev pub decreases-halves : goal.decreases-halves
decreases-halves l = l.high - l.low

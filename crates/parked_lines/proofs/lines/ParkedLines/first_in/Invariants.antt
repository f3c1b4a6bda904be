use Rattle.parked_lines.specs.Lines.{NoneFrom}
use Rattle.parked_lines.proofs.lines.ParkedLines.first_in.Given as goal

abbrev pub invariant-loop-queue : goal.invariant-loop-queue
invariant-loop-queue l = NoneFrom l.self l.free l.from l.queue

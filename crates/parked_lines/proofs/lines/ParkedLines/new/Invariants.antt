use Rattle.std.proofs.Common.{◌≡◌, [], replicate}
use Rattle.parked_lines.proofs.lines.ParkedLines.new.Given as goal

abbrev pub invariant-loop : goal.invariant-loop
invariant-loop l = l.lines.items ≡ replicate l.counter []

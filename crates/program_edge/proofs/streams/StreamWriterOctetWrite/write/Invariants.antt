use Rattle.std.proofs.Common.{◌≡◌}
use Rattle.program_edge.proofs.streams.StreamWriterOctetWrite.write.Given as goal

abbrev pub invariant-loop : goal.invariant-loop
invariant-loop g l = l.self.faults ≡ l.fn.self.faults

use Rattle.server_house.specs.Lines.{TellsRotations}
use Rattle.server_clients.proofs.listening.Porter.admit.Given as goal

abbrev pub invariant-rounds : goal.invariant-rounds
invariant-rounds g l = TellsRotations (g.W.OctetWrite.written l.fn.output) (g.W.OctetWrite.faults l.fn.output) (g.W.OctetWrite.written l.output) (g.W.OctetWrite.faults l.output) l.told

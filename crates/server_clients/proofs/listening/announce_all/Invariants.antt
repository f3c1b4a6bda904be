use Rattle.std.proofs.Common.{ℕ, List, Option, Ok}
use Rattle.server_house.specs.Lines.{TellsRotations}
use Rattle.server_clients.proofs.listening.announce_all.Given as goal

abbrev pub invariant-loop-number : goal.invariant-loop-number
invariant-loop-number g l = (was : Option (List ℕ)) (n : ℕ) → TellsRotations was n (g.W.OctetWrite.written l.fn.output) (g.W.OctetWrite.faults l.fn.output) (Ok tt) → TellsRotations was n (g.W.OctetWrite.written l.output) (g.W.OctetWrite.faults l.output) (Ok tt)

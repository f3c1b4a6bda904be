use Rattle.receiver.proofs.Moves.{refusing}
use Rattle.receiver.proofs.machine.Machine.advance.Goals as goal

pub returns-in-Refusing-clause-step : goal.returns-in-Refusing-clause-step
returns-in-Refusing-clause-step c = rw (c.fault.ensures.need, c.fault.ensures.over) (refusing c.args.self.now c.in-Refusing.refusal c.args.input.now c.in-Refusing.is)

use Rattle.receiver.proofs.Moves.{first_refused}
use Rattle.receiver.proofs.machine.Machine.end_command.Goals as goal

pub returns-in-Ok-clause-step : goal.returns-in-Ok-clause-step
returns-in-Ok-clause-step c =
    let e = rw c.as_slice.ensures.value at c.in-Ok.ensures.value in
    rw e c.begin.ensures.step

pub returns-in-Err-clause-step : goal.returns-in-Err-clause-step
returns-in-Err-clause-step c =
    let s = rw c.as_slice.ensures.value at c.in-Err.ensures.value in
    rw (c.fault.ensures.need, c.fault.ensures.over) (first_refused c.args.self.now _ c.in-Err.refusal c.requires.ended.phase s)

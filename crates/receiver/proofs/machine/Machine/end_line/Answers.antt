use Rattle.receiver.proofs.machine.Machine.end_line.Goals as goal

pub returns-then-self-clause-step : goal.returns-then-self-clause-step
returns-then-self-clause-step c =
    let s = rw c.if-self.true at c.end_sub.ensures.step in
    rw c.if-self.true s

pub returns-else-self-clause-step : goal.returns-else-self-clause-step
returns-else-self-clause-step c =
    let s = rw c.if-self.false at c.end_command.ensures.step in
    rw c.if-self.false s

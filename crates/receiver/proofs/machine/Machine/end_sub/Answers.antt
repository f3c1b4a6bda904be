use Rattle.receiver.proofs.Moves.{means_count}
use Rattle.receiver.proofs.machine.Machine.end_sub.Goals as goal

pub begin_block-requires-clause-counted : goal.begin_block-requires-clause-counted
begin_block-requires-clause-counted c = means_count _ c.in-Ok.sub c.in-Ok.ensures.layout

pub returns-in-Ok-clause-step : goal.returns-in-Ok-clause-step
returns-in-Ok-clause-step c =
    let e = rw c.as_slice.ensures.value at c.in-Ok.ensures.value in
    rw (← e) c.begin_block.ensures.step

use Rattle.std.proofs.Common.{arith, sym, ◌∙◌}
use Rattle.receiver.proofs.Moves.{no_zero}
use Rattle.receiver.proofs.machine.Machine.advance_contents.Goals as goal

pub returns-else-input-eq0-clause-step : goal.returns-else-input-eq0-clause-step
returns-else-input-eq0-clause-step c = rw (c.fault.ensures.need, c.fault.ensures.over) (no_zero c.args.self.now c.args.left c.args.input.now c.requires.phase (omega arith) (sym c.is_empty.ensures ∙ c.if-is_empty.false) c.if-input-eq0.false)

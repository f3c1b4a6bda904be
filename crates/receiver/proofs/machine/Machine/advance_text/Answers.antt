use Rattle.std.proofs.Common.{arith}
use Rattle.receiver.proofs.Moves.{text_no_zero, control_read, control_refused}
use Rattle.receiver.proofs.machine.Machine.advance_text.Goals as goal

pub returns-then-input-taken-ne0-clause-step : goal.returns-then-input-taken-ne0-clause-step
returns-then-input-taken-ne0-clause-step c =
    let h = rw c.requires.phase at c.requires.sound.phase in
    rw (c.fault.ensures.need, c.fault.ensures.over) (text_no_zero c.args.self.now c.args.name c.args.count c.push_fitting-taken.result c.push_fitting-taken.new.octets c.args.input.now c.requires.phase (omega arith) (omega arith) c.if-input-taken-ne0.true)

pub returns-in-Ok-clause-step : goal.returns-in-Ok-clause-step
returns-in-Ok-clause-step c =
    let h = rw c.requires.phase at c.requires.sound.phase in
    let e = rw (c.as_slice.ensures.value, c.push_fitting-taken.ensures.items) at c.in-Ok.ensures.value in
    control_read c.args.self.now c.args.name c.args.count c.push_fitting-taken.result c.push_fitting-taken.new.octets c.args.input.now c.in-Ok.control c.requires.phase (omega arith) (omega arith) c.if-input-taken-ne0.false e

pub returns-in-Err-clause-step : goal.returns-in-Err-clause-step
returns-in-Err-clause-step c =
    let h = rw c.requires.phase at c.requires.sound.phase in
    let e = rw (c.as_slice.ensures.value, c.push_fitting-taken.ensures.items) at c.in-Err.ensures.value in
    rw (c.fault-in-Err.ensures.need, c.fault-in-Err.ensures.over)
    (control_refused c.args.self.now c.args.name c.args.count c.push_fitting-taken.result c.push_fitting-taken.new.octets c.args.input.now c.in-Err.refusal c.requires.phase (omega arith) (omega arith) c.if-input-taken-ne0.false e)

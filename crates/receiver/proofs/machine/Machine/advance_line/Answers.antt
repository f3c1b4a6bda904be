use Rattle.std.proofs.Common.{arith}
use Rattle.std.proofs.lemmas.List.{length-take-le}
use Rattle.receiver.proofs.Cuts.{pushed_front, pushed_all}
use Rattle.receiver.proofs.Moves.{line_over, line_more, line_ends, line_sound}
use Rattle.receiver.proofs.machine.Machine.advance_line.Goals as goal

pub returns-then-inner-room-clause-step : goal.returns-then-inner-room-clause-step
returns-then-inner-room-clause-step c =
    let h = rw c.requires.phase at c.requires.sound.phase in
    rw (c.fault.ensures.need, c.fault.ensures.over) (line_over c.args.self.now _ c.args.input.now c.requires.phase h.0 (omega arith) (omega arith) (omega arith))

pub returns-then-inner-input-clause-sound : goal.returns-then-inner-input-clause-sound
returns-then-inner-input-clause-sound c =
    let h = rw c.requires.phase at c.requires.sound.phase in
    let t = length-take-le c.inner_len-inner.result c.args.input.now (omega arith) in
    let f = pushed_front c.args.self.now.line.items c.push_fitting.new.octets.items c.push_fitting.result c.inner_len-inner.result c.args.input.now c.push_fitting.ensures.items (omega arith) in
    let i = pushed_all c.args.self.now.line.items c.push_fitting.new.octets.items c.inner_len-inner.result c.args.input.now f (omega arith) in
    line_sound c.args.self.now c.push_fitting.new.octets c.inner_len-inner.result c.args.input.now c.requires.sound c.requires.phase (omega arith) i c.inner_len-inner.ensures.len (omega arith) (omega arith)

pub returns-then-inner-input-clause-step : goal.returns-then-inner-input-clause-step
returns-then-inner-input-clause-step c =
    let h = rw c.requires.phase at c.requires.sound.phase in
    let t = length-take-le c.inner_len-inner.result c.args.input.now (omega arith) in
    let f = pushed_front c.args.self.now.line.items c.push_fitting.new.octets.items c.push_fitting.result c.inner_len-inner.result c.args.input.now c.push_fitting.ensures.items (omega arith) in
    let i = pushed_all c.args.self.now.line.items c.push_fitting.new.octets.items c.inner_len-inner.result c.args.input.now f (omega arith) in
    line_more c.args.self.now c.push_fitting.new.octets c.inner_len-inner.result c.args.input.now c.requires.phase h.0 c.inner_len-inner.ensures.len (omega arith) (omega arith) i

pub returns-clause-step : goal.returns-clause-step
returns-clause-step c =
    let h = rw c.requires.phase at c.requires.sound.phase in
    let t = length-take-le c.inner_len-inner.result c.args.input.now (omega arith) in
    let f = pushed_front c.args.self.now.line.items c.push_fitting.new.octets.items c.push_fitting.result c.inner_len-inner.result c.args.input.now c.push_fitting.ensures.items (omega arith) in
    line_ends c.args.self.now c.push_fitting.new.octets c.inner_len-inner.result c.args.input.now c.end_line-need.result c.end_line-need.new.self c.requires.phase h.0 c.inner_len-inner.ensures.len (omega arith) (omega arith) f c.end_line-need.ensures.step

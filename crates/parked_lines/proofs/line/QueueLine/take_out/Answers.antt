use Rattle.std.proofs.Common.{arith, length, ◌<◌, List, subst, sym}
use Rattle.parked_lines.specs.declared.job.ParkedJob.{ParkedJob}
use Rattle.parked_lines.proofs.LineLemmas.{answer_taken, becomes_taken}
use Rattle.parked_lines.proofs.line.QueueLine.take_out.Goals as goal

pub returns-clause-answer : goal.returns-clause-answer
returns-clause-answer c =
    let P : List ParkedJob → Type 0 = λ list. c.in_ok-place.place < length list in
    let within : c.in_ok-place.place < length c.self.inside.jobs.items = subst P (sym c.self.view_is) c.in_ok-place.ensures.within in
    answer_taken c.self.inside.jobs.items c.args.self.now c.in_ok-place.place c.args.number c.remove.result c.self.view_is c.self.invariant c.in_ok-place.ensures (λ d. c.remove.ensures.succeeds d (omega (arith, within, c.self.inside.jobs.ok)))

pub returns-clause-gone : goal.returns-clause-gone
returns-clause-gone c =
    let P : List ParkedJob → Type 0 = λ list. c.in_ok-place.place < length list in
    let within : c.in_ok-place.place < length c.self.inside.jobs.items = subst P (sym c.self.view_is) c.in_ok-place.ensures.within in
    becomes_taken c.self.inside.jobs.items c.args.self.now c.remove.new.self.items c.in_ok-place.place c.args.number c.remove.result c.self.view_is c.self.invariant c.in_ok-place.ensures (λ d. c.remove.ensures.succeeds d (omega (arith, within, c.self.inside.jobs.ok))) c.remove.ensures.items

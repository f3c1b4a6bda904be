use Rattle.std.proofs.Common.{◌≡◌, ◌≤◌, List, length, ap, ◌∙◌, arith}
use Rattle.spool_calls.specs.declared.printer.Printer.{Printer}
use Rattle.spool_calls.specs.Looks.Detail.{Outlines}
use Rattle.spool_calls.specs.Kept.{Kept}
use Rattle.spool_calls.specs.Telling.{stopped_in}
use Rattle.step_lemmas.proofs.Cores.Reading.{few_stopped, reads_stopped}
use Rattle.spool_core.specs.Inside.{core_view}
use Rattle.spool_core.proofs.core_state.Core.stopped_in.Goals as goal

pub overflow_cast-result : goal.overflow_cast-result
overflow_cast-result c =
    let a = c.self.inside in
    let r = c.self.invariant.reached in
    let few : length (stopped_in c.args.queue a.printers.items) ≤ 1024 = few_stopped Outlines r.0 r.1 (core_view a) r.2 c.self.invariant.ranges c.args.queue in
    let same : c.count_stopped_in.result ≡ length (stopped_in c.args.queue a.printers.items) = c.count_stopped_in.ensures ∙ ap (λ (ps : List Printer). length (stopped_in c.args.queue ps)) c.as_slice.ensures.value in
    omega (arith, few, same)

pub returns : goal.returns
returns c d b h l =
    let q = c.args.queue in
    c.count_stopped_in.ensures
    ∙ (ap (λ (ps : List Printer). length (stopped_in q ps)) (c.as_slice.ensures.value ∙ ap (λ (k : Kept). k.printers) c.self.view_is)
    ∙ reads_stopped d b h c.args.self.now l q)

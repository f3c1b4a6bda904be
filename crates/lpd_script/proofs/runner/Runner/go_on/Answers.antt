use Rattle.std.proofs.Common.{sym, ap, ◌∙◌}
use Rattle.script_lines.specs.Texts as T
use Rattle.lpd_script.proofs.Turning.{begins, goes_on, stops}
use Rattle.lpd_script.proofs.runner.Runner.go_on.Goals as goal

pub loop-init : goal.loop-init
loop-init c = begins c.args.self.now c.args.session c.args.first c.new-written.result.items c.new-written.ensures.items

pub returns-in-Some-clause-ran : goal.returns-in-Some-clause-ran
returns-in-Some-clause-ran c =
    stops c.loop.invariant _ c.in-Some.stop (sym c.in-Some.is ∙ c.stop_of.ensures) c.in_ok-put_written.ensures
    (c.in_ok-turns_line.ensures ∙ ap (λ x. T.turns_line c.args.session x c.in-Some.stop) c.as_slice.ensures.value)

pub loop-preserved : goal.loop-preserved
loop-preserved c =
    goes_on c.loop.invariant c.in-Turned.next (sym c.stop_of.ensures ∙ c.in_default.is)
    c.in_ok-put_written.ensures c.in-Turned.ensures.config c.in-Turned.ensures.hosts c.in-Turned.ensures.step

use Rattle.lpd_script.proofs.Turning.{GoneOn}
use Rattle.lpd_script.proofs.runner.Runner.go_on.Given as goal

abbrev pub invariant-loop : goal.invariant-loop
invariant-loop l = GoneOn l.fn.self l.session l.fn.first l.written.items l.deed l.self

use Rattle.std.proofs.Common.{◌≡◌}
use Rattle.printer_sinks.specs.Connections.{told, spoken}
use Rattle.printer_sinks.proofs.socket.begin.Given as goal

abbrev pub invariant-loop-tried : goal.invariant-loop-tried
invariant-loop-tried g l = told spoken (g.D.Dial.connections l.dial) ≡ told spoken (g.D.Dial.connections l.fn.dial)

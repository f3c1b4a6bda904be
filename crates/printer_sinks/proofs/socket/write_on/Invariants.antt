use Rattle.std.proofs.Common.{length, ◌-◌, ◌≡◌, ◌≤◌, take}
use Rattle.printer_sinks.specs.Connections.{told, longer}
use Rattle.printer_sinks.proofs.socket.write_on.Given as goal

abbrev pub invariant-loop-done : goal.invariant-loop-done
invariant-loop-done g l = record {
  within : l.done ≤ length l.octets;
  connections : g.D.Dial.connections l.dial ≡ told (longer (take l.done l.octets)) (g.D.Dial.connections l.fn.dial);
}

abbrev pub decreases-loop-done : goal.decreases-loop-done
decreases-loop-done g l = length l.octets - l.done

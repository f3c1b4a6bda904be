use Rattle.std.proofs.Common.{length, ◌-◌, ◌≡◌, ◌≤◌, take}
use Rattle.lpd_commands.specs.Ends.{Writes}
use Rattle.lpd_commands.proofs.ends.write_all.Given as goal

abbrev pub invariant-loop-done : goal.invariant-loop-done
invariant-loop-done g l = record {
  within : l.done ≤ length l.octets;
  written : Writes (g.W.OctetWrite.written l.fn.writer) (g.W.OctetWrite.written l.writer) (take l.done l.octets);
  faults : g.W.OctetWrite.faults l.writer ≡ g.W.OctetWrite.faults l.fn.writer;
}

abbrev pub decreases-loop-done : goal.decreases-loop-done
decreases-loop-done g l = length l.octets - l.done

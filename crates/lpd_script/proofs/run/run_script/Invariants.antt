use Rattle.std.proofs.Common.{◌≡◌, ◌≤◌, ◌+◌, length}
use Rattle.lpd_script.proofs.Running.{SoFar}
use Rattle.lpd_script.proofs.run.run_script.Given as goal

abbrev pub invariant-loop-rest : goal.invariant-loop-rest
invariant-loop-rest g l = record {
  faults : g.W.OctetWrite.faults l.output ≡ g.W.OctetWrite.faults l.fn.output;
  count : l.number + length l.rest ≤ length l.fn.script;
  so_far :
      SoFar l.fn.runner.world.core.config l.fn.script l.number l.runner l.rest (g.W.OctetWrite.written l.fn.output)
      (g.W.OctetWrite.written l.output) l.printed.items;
}

abbrev pub decreases-loop-rest : goal.decreases-loop-rest
decreases-loop-rest g l = length l.rest

use Rattle.std.proofs.Common.{◌≡◌, ◌≤◌, take}
use Rattle.standings.specs.Printers.{count_at}
use Rattle.status_scene.specs.Refusing.{is_refused_at}
use Rattle.status_scene.proofs.refusing.refusing_queues.Given as goal

abbrev pub invariant-loop-i : goal.invariant-loop-i
invariant-loop-i l = record {
  counted : l.count ≡ count_at (λ at _. is_refused_at l.config l.spool at) 0 (take l.i l.queues);
  few : l.count ≤ l.i;
}

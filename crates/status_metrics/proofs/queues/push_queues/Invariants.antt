use Rattle.std.proofs.Common.{◌≡◌, ◌++◌, take, string_bytes}
use Rattle.status_lines.specs.Status.{placed}
use Rattle.status_metrics.specs.Metrics.{of_queue}
use Rattle.status_metrics.proofs.queues.push_queues.Given as goal

abbrev pub invariant-loop-i : goal.invariant-loop-i
invariant-loop-i l = string_bytes l.text ≡ string_bytes l.initial.text ++ placed (of_queue l.scene l.what) 0 (take l.i l.queue-items)

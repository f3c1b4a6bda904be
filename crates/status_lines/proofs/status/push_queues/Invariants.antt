use Rattle.std.proofs.Common.{◌≡◌, ◌++◌, take, string_bytes}
use Rattle.status_lines.specs.Status.{placed, queue_text}
use Rattle.status_lines.proofs.status.push_queues.Given as goal

abbrev pub invariant-loop-i : goal.invariant-loop-i
invariant-loop-i l =
    string_bytes l.text
    ≡ string_bytes l.initial.text
    ++ placed (queue_text l.printers l.noted) 0 (take l.i l.queue-items)

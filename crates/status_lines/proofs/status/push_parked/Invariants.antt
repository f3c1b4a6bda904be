use Rattle.std.proofs.Common.{◌≡◌, ◌++◌, take, string_bytes}
use Rattle.status_lines.specs.Status.{parked_text, placed}
use Rattle.status_lines.proofs.status.push_parked.Given as goal

abbrev pub invariant-loop-i : goal.invariant-loop-i
invariant-loop-i l =
    string_bytes l.text
    ≡ string_bytes l.initial.text
    ++ placed (parked_text l.parked) 0 (take l.i l.queue-items)

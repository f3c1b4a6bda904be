use Rattle.std.proofs.Common.{◌≡◌, ◌++◌, take, string_bytes}
use Rattle.status_lines.specs.Status.{placed, printer_text}
use Rattle.status_lines.proofs.status.push_printers.Given as goal

abbrev pub invariant-loop-i : goal.invariant-loop-i
invariant-loop-i l =
    string_bytes l.text
    ≡ string_bytes l.initial.text ++ placed (printer_text l.queue.0 l.queue.1.now l.noted) 0 (take l.i l.printers)

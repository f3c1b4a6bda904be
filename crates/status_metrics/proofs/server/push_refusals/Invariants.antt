use Rattle.std.proofs.Common.{◌≡◌, ◌++◌, take, string_bytes}
use Rattle.status_lines.specs.Status.{placed}
use Rattle.status_metrics.specs.Metrics.{refusal_text}
use Rattle.status_metrics.proofs.server.push_refusals.Given as goal

abbrev pub invariant-loop-i : goal.invariant-loop-i
invariant-loop-i l = string_bytes l.text ≡ string_bytes l.initial.text ++ placed refusal_text 0 (take l.i l.refused)

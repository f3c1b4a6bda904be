use Rattle.std.proofs.Common.{◌≡◌, ◌++◌, take, string_bytes}
use Rattle.std.specs.List.{flat_map}
use Rattle.status_lines.specs.Status.{session_text}
use Rattle.status_lines.proofs.status.push_sessions.Given as goal

abbrev pub invariant-loop-session : goal.invariant-loop-session
invariant-loop-session l = string_bytes l.text ≡ string_bytes l.initial.text ++ flat_map session_text (take l.session-index l.sessions)

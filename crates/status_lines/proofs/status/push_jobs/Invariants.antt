use Rattle.std.proofs.Common.{◌≡◌, ◌++◌, take, string_bytes}
use Rattle.status_lines.specs.Status.{job_text, placed}
use Rattle.status_lines.proofs.status.push_jobs.Given as goal

abbrev pub invariant-loop-i : goal.invariant-loop-i
invariant-loop-i l = string_bytes l.text ≡ string_bytes l.initial.text ++ placed (job_text l.config l.spool l.noted) 0 (take l.i l.job-items)

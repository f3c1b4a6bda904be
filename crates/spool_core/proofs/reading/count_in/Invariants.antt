use Rattle.std.proofs.Common.{◌≡◌, ◌≤◌, ◌==◌, take}
use Rattle.std.specs.Prelude.{count_by}
use Rattle.held_jobs.specs.Jobs.{HeldJob}
use Rattle.spool_core.proofs.reading.count_in.Given as goal

abbrev pub invariant-loop-i : goal.invariant-loop-i
invariant-loop-i l = record { few : l.jobs ≤ l.i; counted : l.jobs ≡ count_by (λ (j : HeldJob). j.facts.queue == l.queue) (take l.i l.book.jobs) }

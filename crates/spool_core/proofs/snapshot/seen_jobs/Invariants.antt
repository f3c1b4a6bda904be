use Rattle.std.proofs.Common.{◌≡◌, map, take}
use Rattle.held_jobs.specs.Turns.{facts_in}
use Rattle.spool_snapshot.specs.Jobs.{seen_job}
use Rattle.spool_core.proofs.snapshot.seen_jobs.Given as goal

abbrev pub invariant-loop-i : goal.invariant-loop-i
invariant-loop-i l = l.jobs.items ≡ map seen_job (facts_in (take l.i l.book.jobs))

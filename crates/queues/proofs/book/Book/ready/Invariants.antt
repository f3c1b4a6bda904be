use Rattle.std.proofs.Common.{◌≡◌, ℕ, ◌<◌, false}
use Rattle.held_jobs.specs.Books.{job_at}
use Rattle.held_jobs.specs.Turns.{facts_in, ready_in}
use Rattle.queues.proofs.book.Book.ready.Given as goal

abbrev pub invariant-loop-i : goal.invariant-loop-i
invariant-loop-i l = (k : ℕ) → k < l.i → ready_in (facts_in l.self.jobs) l.queue (job_at l.self k).facts ≡ false

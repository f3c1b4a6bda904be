use Rattle.std.proofs.Common.{◌≡◌, ℕ, ◌<◌, false}
use Rattle.held_jobs.specs.Books.{job_at}
use Rattle.held_jobs.specs.Turns.{goes_on}
use Rattle.queues.proofs.book.Book.begun.Given as goal

abbrev pub invariant-loop-i : goal.invariant-loop-i
invariant-loop-i l = (k : ℕ) → k < l.i → goes_on l.number (job_at l.self k).facts ≡ false

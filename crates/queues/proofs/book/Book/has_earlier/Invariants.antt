use Rattle.std.proofs.Common.{◌≡◌, ℕ, ◌<◌, false}
use Rattle.held_jobs.specs.Books.{job_at}
use Rattle.held_jobs.specs.Turns.{is_preceded_by}
use Rattle.queues.proofs.book.Book.has_earlier.Given as goal

abbrev pub invariant-loop-other : goal.invariant-loop-other
invariant-loop-other l = (k : ℕ) → k < l.other → is_preceded_by (job_at l.self l.i).facts (job_at l.self k).facts ≡ false

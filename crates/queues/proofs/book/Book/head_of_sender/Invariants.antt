use Rattle.std.proofs.Common.{◌≡◌, ℕ, ◌<◌, false, get_or}
use Rattle.queues.specs.Tests.{is_from}
use Rattle.held_jobs.specs.Turns.{facts_in, no_facts}
use Rattle.queues.proofs.book.Book.head_of_sender.Given as goal

abbrev pub invariant-loop-i : goal.invariant-loop-i
invariant-loop-i l = (k : ℕ) → k < l.i → is_from l.sender l.queue (get_or (facts_in l.self.jobs) k no_facts) ≡ false

use Rattle.std.proofs.Common.{sym, ap}
use Rattle.held_jobs.specs.Jobs.{HeldJob}
use Rattle.queues.proofs.Entries.{here_at}
use Rattle.queues.proofs.book.Book.job.Goals as goal

pub returns : goal.returns
returns c =
    let k = here_at c.args.i c.index-entry.result.now c.self.invariant c.self.view_is c.requires c.index-entry.ensures in
    sym (ap (λ (j : HeldJob). j.facts) k.shows)

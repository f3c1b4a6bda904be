use Rattle.std.proofs.Common.{sym, ◌∙◌, ap}
use Rattle.held_jobs.specs.Jobs.{HeldJob}
use Rattle.queues.proofs.Entries.{here_at}
use Rattle.queues.proofs.book.Book.is_open.Goals as goal

pub returns : goal.returns
returns c =
    let k = here_at c.args.i c.index-entry.result.now c.self.invariant c.self.view_is c.requires c.index-entry.ensures in
    c.is_open.ensures ∙ sym (ap (λ (j : HeldJob). j.chain.is_open) k.shows)

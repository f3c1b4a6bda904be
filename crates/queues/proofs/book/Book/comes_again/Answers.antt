use Rattle.std.proofs.Common.{sym, ◌∙◌, ap}
use Rattle.page_chain.specs.Changes.{comes_again}
use Rattle.held_jobs.specs.Jobs.{HeldJob}
use Rattle.queues.proofs.Entries.{here_at}
use Rattle.queues.proofs.book.Book.comes_again.Goals as goal

pub returns : goal.returns
returns c =
    let k = here_at c.args.i c.index-entry.result.now c.self.invariant c.self.view_is c.requires c.index-entry.ensures in
    c.comes_again.ensures ∙ sym (ap (λ (j : HeldJob). comes_again j.chain.places j.chain.last) k.shows)

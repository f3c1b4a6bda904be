use Rattle.std.proofs.Common.{slice_get, sym, ◌∙◌, ap}
use Rattle.held_jobs.specs.Jobs.{HeldJob}
use Rattle.queues.proofs.Entries.{here_at}
use Rattle.queues.proofs.book.Book.next_place.Goals as goal

pub returns : goal.returns
returns c =
    let k = here_at c.args.i c.index-entry.result.now c.self.invariant c.self.view_is c.requires c.index-entry.ensures in
    c.next_place.ensures ∙ sym (ap (λ (j : HeldJob). slice_get j.chain.places 0) k.shows)

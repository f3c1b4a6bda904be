use Rattle.std.proofs.Common.{IsTrue, sym, subst}
use Rattle.page_chain.specs.Changes.{IsReady}
use Rattle.held_jobs.specs.Jobs.{HeldJob}
use Rattle.queues.proofs.Entries.{here_at}
use Rattle.queues.proofs.book.Book.is_ready.Goals as goal

pub is_ready-requires : goal.is_ready-requires
is_ready-requires c =
    let k = here_at c.args.i c.index-entry.result.now c.self.invariant c.self.view_is c.requires c.index-entry.ensures in
    k.entry.held

pub returns : goal.returns
returns c =
    let k = here_at c.args.i c.index-entry.result.now c.self.invariant c.self.view_is c.requires c.index-entry.ensures in
    let r = c.is_ready.result in
    subst (λ (j : HeldJob). (IsTrue r → IsReady j.chain) × (IsReady j.chain → IsTrue r)) (sym k.shows) c.is_ready.ensures

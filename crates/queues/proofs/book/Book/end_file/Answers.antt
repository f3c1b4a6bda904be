use Rattle.std.proofs.Common.{◌≡◌, true, false, refl, subst}
use Rattle.page_chain.specs.Files.{Files}
use Rattle.held_jobs.specs.Jobs.{HeldJob}
use Rattle.held_jobs.specs.Moves.{closed_file}
use Rattle.queues.proofs.Entries.{here_at, turned_led}
use Rattle.queues.proofs.book.Book.end_file.Goals as goal

pub end_file-requires : goal.end_file-requires
end_file-requires c =
    let k = here_at c.args.i c.index_mut-entry.result.now c.self.invariant c.self.view_is c.requires.here c.index_mut-entry.ensures.value in
    subst (λ (j : HeldJob). j.chain.is_open ≡ true) k.shows c.requires.opened

pub invariant_of-self : goal.invariant_of-self
invariant_of-self c =
    let k = here_at c.args.i c.index_mut-entry.result.now c.self.invariant c.self.view_is c.requires.here c.index_mut-entry.ensures.value in
    (turned_led k c.index_mut-entry.result.now.job c.end_file.new.self (λ (v : Files). record v { is_open = false }) closed_file c.end_file.ensures refl refl refl refl k.entry.sizes).book

pub returns : goal.returns
returns c =
    let k = here_at c.args.i c.index_mut-entry.result.now c.self.invariant c.self.view_is c.requires.here c.index_mut-entry.ensures.value in
    (turned_led k c.index_mut-entry.result.now.job c.end_file.new.self (λ (v : Files). record v { is_open = false }) closed_file c.end_file.ensures refl refl refl refl k.entry.sizes).shows

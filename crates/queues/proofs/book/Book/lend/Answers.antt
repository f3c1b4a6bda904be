use Rattle.std.proofs.Common.{◌+◌, ◌<◌, ◌^◌, refl, subst}
use Rattle.held_jobs.specs.Jobs.{HeldJob}
use Rattle.held_jobs.specs.Moves.{lent_facts}
use Rattle.queues.proofs.Entries.{here_at, told_led}
use Rattle.queues.proofs.book.Book.lend.Goals as goal

pub lend-requires : goal.lend-requires
lend-requires c =
    let k = here_at c.args.i c.index_mut-entry.result.now c.self.invariant c.self.view_is c.requires.here c.index_mut-entry.ensures.value in
    subst (λ (j : HeldJob). j.facts.granted + 1 < 2 ^ 32) k.shows c.requires.few

pub invariant_of-self : goal.invariant_of-self
invariant_of-self c =
    let k = here_at c.args.i c.index_mut-entry.result.now c.self.invariant c.self.view_is c.requires.here c.index_mut-entry.ensures.value in
    (told_led k c.lend.new.self lent_facts c.lend.ensures refl).book

pub returns : goal.returns
returns c =
    let k = here_at c.args.i c.index_mut-entry.result.now c.self.invariant c.self.view_is c.requires.here c.index_mut-entry.ensures.value in
    (told_led k c.lend.new.self lent_facts c.lend.ensures refl).shows

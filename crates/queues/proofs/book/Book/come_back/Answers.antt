use Rattle.std.proofs.Common.{◌+◌, ◌<◌, ◌^◌, refl, subst}
use Rattle.held_jobs.specs.Jobs.{HeldJob}
use Rattle.held_jobs.specs.Moves.{back_facts}
use Rattle.queues.proofs.Entries.{here_at, told_led}
use Rattle.queues.proofs.book.Book.come_back.Goals as goal

pub come_back-requires : goal.come_back-requires
come_back-requires c =
    let k = here_at c.args.i c.index_mut-entry.result.now c.self.invariant c.self.view_is c.requires.here c.index_mut-entry.ensures.value in
    subst (λ (j : HeldJob). j.facts.back + 1 < 2 ^ 64) k.shows c.requires.few

pub invariant_of-self : goal.invariant_of-self
invariant_of-self c =
    let k = here_at c.args.i c.index_mut-entry.result.now c.self.invariant c.self.view_is c.requires.here c.index_mut-entry.ensures.value in
    (told_led k c.come_back.new.self back_facts c.come_back.ensures refl).book

pub returns : goal.returns
returns c =
    let k = here_at c.args.i c.index_mut-entry.result.now c.self.invariant c.self.view_is c.requires.here c.index_mut-entry.ensures.value in
    (told_led k c.come_back.new.self back_facts c.come_back.ensures refl).shows

use Rattle.std.proofs.Common.{◌≡◌, ◌+◌, ◌<◌, ◌^◌, refl, sym, ◌∙◌, ap, subst}
use Rattle.page_chain.specs.Changes.{AwaitsLast, last_place}
use Rattle.page_chain.specs.Held.{shown}
use Rattle.held_jobs.specs.Jobs.{HeldJob}
use Rattle.held_jobs.specs.Moves.{again_job}
use Rattle.held_jobs.specs.Books.{Books}
use Rattle.queues.proofs.Entries.{here_at, leads_led}
use Rattle.queues.proofs.Sizes.{given_of_size}
use Rattle.queues.proofs.book.Book.come_again.Goals as goal

pub give_again-requires-clause-held : goal.give_again-requires-clause-held
give_again-requires-clause-held c =
    let k = here_at c.args.i c.index_mut-entry.result.now c.self.invariant c.self.view_is c.requires.here c.index_mut-entry.ensures.value in
    k.entry.held

pub give_again-requires-clause-awaited : goal.give_again-requires-clause-awaited
give_again-requires-clause-awaited c =
    let k = here_at c.args.i c.index_mut-entry.result.now c.self.invariant c.self.view_is c.requires.here c.index_mut-entry.ensures.value in
    subst (λ (j : HeldJob). AwaitsLast j.chain) k.shows c.requires.awaited

pub come_back-requires : goal.come_back-requires
come_back-requires c =
    let k = here_at c.args.i c.index_mut-entry.result.now c.self.invariant c.self.view_is c.requires.here c.index_mut-entry.ensures.value in
    subst (λ (j : HeldJob). j.facts.back + 1 < 2 ^ 64) k.shows c.requires.few

pub invariant_of-self : goal.invariant_of-self
invariant_of-self c =
    let k = here_at c.args.i c.index_mut-entry.result.now c.self.invariant c.self.view_is c.requires.here c.index_mut-entry.ensures.value in
    let size : c.args.page.page_size ≡ c.self.inside.page_size = c.requires.size ∙ sym (ap (λ (u : Books). u.page_size) c.self.view_is) in
    let sizes = let v = shown c.index_mut-entry.result.now.chain c.self.inside.nodes in given_of_size c.self.inside.page_size v.files (last_place v) c.args.page k.entry.sizes size in
    let total = c.give_again.ensures.total ∙ ap (λ (u : Books). u.stored + 1) c.self.view_is in
    (leads_led k c.give_again.new.nodes c.come_back.new.self c.index_mut-entry.result.now.chain (again_job c.args.page) (c.args.self.now.stored + 1) c.give_again.ensures.chain c.come_back.ensures refl refl sizes total).book

pub returns : goal.returns
returns c =
    let k = here_at c.args.i c.index_mut-entry.result.now c.self.invariant c.self.view_is c.requires.here c.index_mut-entry.ensures.value in
    let size : c.args.page.page_size ≡ c.self.inside.page_size = c.requires.size ∙ sym (ap (λ (u : Books). u.page_size) c.self.view_is) in
    let sizes = let v = shown c.index_mut-entry.result.now.chain c.self.inside.nodes in given_of_size c.self.inside.page_size v.files (last_place v) c.args.page k.entry.sizes size in
    let total = c.give_again.ensures.total ∙ ap (λ (u : Books). u.stored + 1) c.self.view_is in
    (leads_led k c.give_again.new.nodes c.come_back.new.self c.index_mut-entry.result.now.chain (again_job c.args.page) (c.args.self.now.stored + 1) c.give_again.ensures.chain c.come_back.ensures refl refl sizes total).shows

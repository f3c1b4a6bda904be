use Rattle.std.proofs.Common.{◌≡◌, ◌+◌, ◌-◌, ◌<◌, ◌^◌, Some, refl, sym, ◌∙◌, ap, subst, arith}
use Rattle.page_chain.specs.Files.{page_at}
use Rattle.page_chain.specs.Changes.{IsReady, next_place}
use Rattle.page_chain.specs.Held.{shown}
use Rattle.held_jobs.specs.Jobs.{HeldJob}
use Rattle.held_jobs.specs.Moves.{handed_job}
use Rattle.held_jobs.specs.Books.{Books}
use Rattle.queues.proofs.Entries.{here_at, leads_led}
use Rattle.queues.proofs.Sizes.{size_at, taken_of_size}
use Rattle.queues.proofs.book.Book.hand.Goals as goal

pub hand-requires : goal.hand-requires
hand-requires c =
    let k = here_at c.args.i c.index_mut-entry.result.now c.self.invariant c.self.view_is c.requires.here c.index_mut-entry.ensures.value in
    subst (λ (j : HeldJob). j.facts.handed + 1 < 2 ^ 64) k.shows c.requires.few

pub take-requires-clause-held : goal.take-requires-clause-held
take-requires-clause-held c =
    let k = here_at c.args.i c.index_mut-entry.result.now c.self.invariant c.self.view_is c.requires.here c.index_mut-entry.ensures.value in
    k.entry.held

pub take-requires-clause-ready : goal.take-requires-clause-ready
take-requires-clause-ready c =
    let k = here_at c.args.i c.index_mut-entry.result.now c.self.invariant c.self.view_is c.requires.here c.index_mut-entry.ensures.value in
    subst (λ (j : HeldJob). IsReady j.chain) k.shows c.requires.ready

pub invariant_of-self : goal.invariant_of-self
invariant_of-self c =
    let k = here_at c.args.i c.index_mut-entry.result.now c.self.invariant c.self.view_is c.requires.here c.index_mut-entry.ensures.value in
    let sizes = let v = shown c.index_mut-entry.result.now.chain c.self.inside.nodes in taken_of_size c.self.inside.page_size v.files (next_place v) k.entry.sizes in
    let t = c.take.ensures.total in
    let s = ap (λ (u : Books). u.stored) c.self.view_is in
    (leads_led k c.take.new.nodes c.hand.new.self c.take.new.self handed_job (c.args.self.now.stored - 1) c.take.ensures.chain c.hand.ensures refl refl sizes (omega (arith, t, s))).book

pub returns-clause-book : goal.returns-clause-book
returns-clause-book c =
    let k = here_at c.args.i c.index_mut-entry.result.now c.self.invariant c.self.view_is c.requires.here c.index_mut-entry.ensures.value in
    let sizes = let v = shown c.index_mut-entry.result.now.chain c.self.inside.nodes in taken_of_size c.self.inside.page_size v.files (next_place v) k.entry.sizes in
    let t = c.take.ensures.total in
    let s = ap (λ (u : Books). u.stored) c.self.view_is in
    (leads_led k c.take.new.nodes c.hand.new.self c.take.new.self handed_job (c.args.self.now.stored - 1) c.take.ensures.chain c.hand.ensures refl refl sizes (omega (arith, t, s))).shows

pub returns-clause-page : goal.returns-clause-page
returns-clause-page c =
    let k = here_at c.args.i c.index_mut-entry.result.now c.self.invariant c.self.view_is c.requires.here c.index_mut-entry.ensures.value in
    subst (λ (j : HeldJob). page_at j.chain.files (next_place j.chain) ≡ Some c.take.result) (sym k.shows) c.take.ensures.page

pub returns-clause-size : goal.returns-clause-size
returns-clause-size c =
    let f = c.self.inside in
    let e = c.index_mut-entry.result.now in
    let k = here_at c.args.i c.index_mut-entry.result.now c.self.invariant c.self.view_is c.requires.here c.index_mut-entry.ensures.value in
    size_at f.page_size (shown e.chain f.nodes).files (next_place (shown e.chain f.nodes)) c.take.result k.entry.sizes c.take.ensures.page
    ∙ ap (λ (u : Books). u.page_size) c.self.view_is

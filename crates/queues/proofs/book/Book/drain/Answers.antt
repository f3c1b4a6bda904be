use Rattle.std.proofs.Common.{◌≡◌, ℕ, ◌+◌, ◌-◌, ◌≤◌, length, refl, sym, ◌∙◌, ap, subst, arith}
use Rattle.page_nodes.specs.Chains.{AreOfSize}
use Rattle.page_chain.specs.Files.{every_page}
use Rattle.page_chain.specs.Held.{shown}
use Rattle.held_jobs.specs.Jobs.{HeldJob}
use Rattle.held_jobs.specs.Moves.{drained_job}
use Rattle.held_jobs.specs.Books.{Books}
use Rattle.queues.proofs.Entries.{here_at, leads_led}
use Rattle.queues.proofs.book.Book.drain.Goals as goal

pub drain_into-requires-clause-held : goal.drain_into-requires-clause-held
drain_into-requires-clause-held c =
    let k = here_at c.args.i c.index_mut-entry.result.now c.self.invariant c.self.view_is c.requires.here c.index_mut-entry.ensures.value in
    k.entry.held

pub drain_into-requires-clause-sizes : goal.drain_into-requires-clause-sizes
drain_into-requires-clause-sizes c =
    let f = c.self.inside in
    let e = c.index_mut-entry.result.now in
    let k = here_at c.args.i c.index_mut-entry.result.now c.self.invariant c.self.view_is c.requires.here c.index_mut-entry.ensures.value in
    let size : c.args.pool.now.page_size ≡ f.page_size = c.requires.size ∙ sym (ap (λ (u : Books). u.page_size) c.self.view_is) in
    subst (λ (n : ℕ). AreOfSize n (every_page (shown e.chain f.nodes).files)) (sym size) k.entry.sizes

pub drain_into-requires-clause-room : goal.drain_into-requires-clause-room
drain_into-requires-clause-room c =
    let k = here_at c.args.i c.index_mut-entry.result.now c.self.invariant c.self.view_is c.requires.here c.index_mut-entry.ensures.value in
    subst (λ (j : HeldJob). c.args.pool.now.free + length (every_page j.chain.files) ≤ c.args.pool.now.pages) k.shows c.requires.room

pub invariant_of-self : goal.invariant_of-self
invariant_of-self c =
    let k = here_at c.args.i c.index_mut-entry.result.now c.self.invariant c.self.view_is c.requires.here c.index_mut-entry.ensures.value in
    let t = c.drain_into.ensures.total in
    let o = c.drain_into.ensures.chain.only.room in let before = c.free-free.ensures in let after = c.free.ensures in
    let s = ap (λ (u : Books). u.stored) c.self.view_is in
    (leads_led k c.drain_into.new.nodes c.end.new.self c.drain_into.new.self drained_job (c.args.self.now.stored - (c.free.result - c.free-free.result)) c.drain_into.ensures.chain c.end.ensures refl refl tt
    (omega (arith, t, o, before, after, s))).book

pub returns-clause-book : goal.returns-clause-book
returns-clause-book c =
    let k = here_at c.args.i c.index_mut-entry.result.now c.self.invariant c.self.view_is c.requires.here c.index_mut-entry.ensures.value in
    let t = c.drain_into.ensures.total in
    let o = c.drain_into.ensures.chain.only.room in let before = c.free-free.ensures in let after = c.free.ensures in
    let s = ap (λ (u : Books). u.stored) c.self.view_is in
    (leads_led k c.drain_into.new.nodes c.end.new.self c.drain_into.new.self drained_job (c.args.self.now.stored - (c.free.result - c.free-free.result)) c.drain_into.ensures.chain c.end.ensures refl refl tt
    (omega (arith, t, o, before, after, s))).shows

pub returns-clause-count : goal.returns-clause-count
returns-clause-count c =
    let k = here_at c.args.i c.index_mut-entry.result.now c.self.invariant c.self.view_is c.requires.here c.index_mut-entry.ensures.value in
    let all = ap (λ (j : HeldJob). length (every_page j.chain.files)) k.shows in
    let t = c.drain_into.ensures.total in
    let o = c.drain_into.ensures.chain.only.room in
    let before = c.free-free.ensures in
    let after = c.free.ensures in
    omega (arith, all, t, o, before, after)
